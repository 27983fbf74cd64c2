-- What validity is of ten filters in columns, filter by filter, as code finds it out. Assumes nothing.
use Rattle.std.specs.Prelude.{if◌then◌else◌}
use mathlib.Core.Path.{◌≡◌, refl, sym, ap, ◌∙◌}
use Prim.Native.Nat.{ℕ, ◌+◌, ◌*◌, ◌<◌}
use native.Mathlib.Omega.{arith}
use mathlib.Core.Bool.{Bool, true, false, ◌&&◌, not}
use mathlib.Core.List.{List, []}
use lib.ListN.{length, get_or, take, drop}
use lib.Seq.{drop-drop}
use lib.Dec.{eqb, leb}
use borrow.Author.Tests.{eq-eqb, ne_eqb, lt-leb}
use Rattle.codec.specs.Plain.{within, all_zero, all_below}
use Rattle.codec.specs.Code.{byte, via, such, mark, many}
use Rattle.codec.proofs.Tests.{and_true, and_false}
use Rattle.codec.proofs.Lawful.{byte_lawful, mark_lawful}
use Rattle.machine.specs.Limits.{most_places, most_data}
use Rattle.machine.specs.Message.{takes}
use Rattle.layout.specs.Sizes.{widths_in, sizes_in, masks_in, rows_size, patterns_in, filters_size}
use Rattle.layout.specs.Record.{row}
use Rattle.layout.specs.Memory.{filter_parts, filter_back, filter_fits, filter_columns, filters}
use Rattle.layout.proofs.Memory.{row_lawful}
use Rattle.ten_places.specs.Place.{filter_at, filter_good}
use Rattle.stored_records.proofs.Parts.{Bytes}
use Rattle.ten_places.proofs.Columns.{many_rows, beside_rows, each_rows, below_same, byte_row, byte_row_got, mark_row, mark_row_got, row_row, row_row_got}

-- ---- ten filters, filter by filter

module _ (flags : ℕ) (m : List ℕ) (h : length m ≡ filters_size) (t : Bytes m) where
  at_sizes : drop most_places (drop most_places m) ≡ drop sizes_in m
  at_sizes = drop-drop most_places 10 m

  at_masks : drop most_places (drop most_places (drop most_places m)) ≡ drop masks_in m
  at_masks = ap (λ (x : List ℕ). drop most_places x) at_sizes ∙ drop-drop most_places 20 m

  at_patterns : drop rows_size (drop most_places (drop most_places (drop most_places m))) ≡ drop patterns_in m
  at_patterns = ap (λ (x : List ℕ). drop rows_size x) at_masks ∙ drop-drop rows_size 30 m

  pub filters_flat : all_below most_places (λ i. filter_good flags i m) ≡ (filters flags).valid m
  unfolding filters filter_columns filter_good filter_at byte mark via such row many
  filters_flat =
      let rows =
      beside_rows most_places byte_lawful 0 (beside_rows most_places mark_lawful false (beside_rows most_places byte_lawful 0 (beside_rows most_places row_lawful [] (many_rows row_lawful most_places [])))) in
      sym (each_rows most_places filter_parts filter_back (filter_fits flags) rows m
      ∙ below_same most_places _ _ (λ i l.
      let first : 0 + i ≡ i = omega arith in
      (λ j.
      (byte_row m t 0 i m refl j
      && (mark_row m t widths_in i (drop most_places m) refl j
      && (byte_row m t sizes_in i (drop most_places (drop most_places m)) at_sizes j
      && (row_row m t masks_in i (drop most_places (drop most_places (drop most_places m))) at_masks j
      && row_row m t patterns_in i (drop rows_size (drop most_places (drop most_places (drop most_places m)))) at_patterns j))))
      && filter_fits flags (
        (byte_row_got m t 0 i m refl ∙ ap (λ (k : ℕ). get_or m k 0) first) j,
        (
          mark_row_got m t widths_in i (drop most_places m) refl j,
          (
            byte_row_got m t sizes_in i (drop most_places (drop most_places m)) at_sizes j,
            (
              row_row_got m t masks_in i (drop most_places (drop most_places (drop most_places m))) at_masks (omega arith) j,
              row_row_got m t patterns_in i (drop rows_size (drop most_places (drop most_places (drop most_places m)))) at_patterns (omega arith) j,
            ),
          ),
        ),
      ))
      ∙ ap (λ (b : Bool). b && filter_fits flags (filter_at i m)) (and_true (leb (get_or m (widths_in + i) 0) 1))))

-- ---- one filter, as code finds it out: what follows its size in mask and pattern is zeros

module _ (flags i : ℕ) (m : List ℕ) where
  abbrev n : ℕ
  n = get_or m (sizes_in + i) 0

  abbrev width : ℕ
  width = get_or m (widths_in + i) 0

  abbrev mask : List ℕ
  mask = take most_data (drop (masks_in + i * most_data) m)

  abbrev pattern : List ℕ
  pattern = take most_data (drop (patterns_in + i * most_data) m)

  pub filter_over : most_data < n → false ≡ filter_good flags i m
  unfolding filter_good filter_fits filter_at within
  filter_over h = sym (go (eqb (get_or m i 0) 0))
    where
      no : eqb n 0 ≡ false
      no = ne_eqb n 0 (λ e. omega arith)

      go : (b : Bool) → (leb width 1 && (if b then not (eqb 1 width) && eqb n 0 && all_zero mask && all_zero pattern
          else leb (get_or m i 0) 2 && takes flags (eqb 1 width) && (leb 1 n && leb n most_data) && all_zero (drop n mask) && all_zero (drop n pattern))) ≡ false
      go true = rw no (rw (and_false (not (eqb 1 width))) (and_false (leb width 1)))
      go false = rw (lt-leb n most_data h) (rw (and_false (leb 1 n)) (rw (and_false (leb (get_or m i 0) 2 && takes flags (eqb 1 width))) (and_false (leb width 1))))

  pub filter_empty : get_or m i 0 ≡ 0 → (leb width 1 && (not (eqb 1 width) && eqb n 0 && all_zero mask && all_zero pattern)) ≡ filter_good flags i m
  unfolding filter_good filter_fits filter_at
  filter_empty e =
      ap (λ (b : Bool). leb width 1 && (if b then not (eqb 1 width) && eqb n 0 && all_zero mask && all_zero pattern
      else leb (get_or m i 0) 2 && takes flags (eqb 1 width) && within 1 most_data n && all_zero (drop n mask) && all_zero (drop n pattern))) (sym (eq-eqb (get_or m i 0) 0 e))

  pub filter_set : (get_or m i 0 ≡ 0 → ⊥)
      → (leb width 1 && (leb (get_or m i 0) 2 && takes flags (eqb 1 width) && (leb 1 n && leb n most_data) && all_zero (drop n mask) && all_zero (drop n pattern))) ≡ filter_good flags i m
  unfolding filter_good filter_fits filter_at within
  filter_set f =
      ap (λ (b : Bool). leb width 1 && (if b then not (eqb 1 width) && eqb n 0 && all_zero mask && all_zero pattern
      else leb (get_or m i 0) 2 && takes flags (eqb 1 width) && (leb 1 n && leb n most_data) && all_zero (drop n mask) && all_zero (drop n pattern))) (sym (ne_eqb (get_or m i 0) 0 f))
