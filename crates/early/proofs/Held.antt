-- Ten filters that a region holds are ten cubes: a filter matches a frame of the identifier exactly if it is not longer and the data are in its cube.
-- Assumes nothing.
use Rattle.std.specs.Prelude.{if◌then◌else◌}
use mathlib.Core.Path.{◌≡◌, refl, sym, ap, ap₂, ◌∙◌, subst}
use Prim.Native.Nat.{ℕ, ◌+◌, ◌*◌, ◌≤◌, ◌<◌}
use native.Mathlib.Omega.{arith}
use mathlib.Core.Bool.{Bool, true, false, not, ◌&&◌, beq}
use mathlib.Core.Option.{Option, none, some}
use mathlib.Core.List.{List, [], ◌++◌, map}
use lib.Dec.{T, eqb, leb}
use lib.Bits.{bit_and}
use lib.ListN.{length, get_or, take, drop, length-map, length-drop}
use lib.Seq.{get_or-take, length-take-le}
use Rattle.codec.specs.Plain.{all, is_byte, all_zero}
use Rattle.codec.specs.Code.{via, such, each_via}
use Rattle.codec.proofs.Tests.{right, and_false}
use Rattle.codec.proofs.Lists.{all_drop, all_take}
use Rattle.codec.proofs.Cells.{all_here}
use Rattle.machine.specs.Limits.{most_places, least_data, most_data}
use Rattle.machine.specs.Message.{id_bytes, id_of}
use Rattle.machine.specs.Filter.{Slots, Filter}
use Rattle.layout.specs.Sizes.{widths_in, sizes_in, masks_in, patterns_in, filters_size}
use Rattle.layout.specs.Memory.{FilterRow, filter_back, filter_fits, filter_columns, filters, taken_fits}
use Rattle.layout.proofs.Memory.{filter_fits_law}
use Rattle.filterbank.specs.Part.{FilterPart}
use Rattle.filterbank.proofs.Held.{rows_of, row_at, nothing, ten_held, held_at, type_at, width_at, size_at_law, mask_at as mask_at_law, pattern_at_law, size_small}
use Rattle.filterwalk.specs.Columns.{listed}
use Rattle.filterwalk.proofs.Listed.{listed_at}
use Rattle.early_rule.specs.Words.{value, digits, mask_word, pattern_word, met_by, size_at, Conds}
use Rattle.early.specs.Cubes.{row_of, data_at, mask_from, pattern_from, kept_at, mask_at, pattern_at}
use Rattle.early.proofs.Rows.{Row, none_left, meets_words, short_mask}

-- the identifier of a row
id_row : (l : List ℕ) → id_of (take most_data l) ≡ id_of l
unfolding id_of
id_row l =
    let at : (k : ℕ) → k < most_data → get_or (take most_data l) k 0 ≡ get_or l k 0 = λ k h. get_or-take most_data l k 0 h in
    omega (arith, at 0 (omega arith), at 1 (omega arith), at 2 (omega arith), at 3 (omega arith))

module _ (m : List ℕ) (v : FilterPart m) (bytes : T (all is_byte m)) (wide : Bool) (id flags : ℕ) where
  abbrev fs : Slots Filter
  fs = (filters flags).get m

  module _ (j : ℕ) (h : j < most_places) where
    -- what is read at a place
    abbrev kind : ℕ
    kind = get_or m j 0

    abbrev width : Bool
    width = eqb 1 (get_or m (widths_in + j) 0)

    abbrev mask : List ℕ
    mask = row_of m (mask_from j)

    abbrev pattern : List ℕ
    pattern = row_of m (pattern_from j)

    abbrev read : FilterRow
    read = (kind, (width, (size_at m j, (mask, pattern))))

    read_is : read ≡ row_at m v j h
    read_is = λ i. (type_at m v j h i, (width_at m v j h i, (size_at_law m v j h i, (mask_at_law m v j h i, pattern_at_law m v j h i))))

    place : get_or fs j none ≡ filter_back read
    place = held_at m v j h flags ∙ ap filter_back (sym read_is)

    read_fits : T (filter_fits v.flags read)
    unfolding filters each_via via such
    read_fits =
        let ten : length (rows_of m v) ≡ most_places = sym (length-map (rows_of m v) filter_back) ∙ ten_held m v 0 in
        let k : j < length (rows_of m v) = omega arith in
        subst (λ (r : FilterRow). T (filter_fits v.flags r)) (sym read_is)
        (all_here (filter_fits v.flags) (rows_of m v) j (nothing m v) (right (filter_columns.valid m) (all (filter_fits v.flags) (rows_of m v)) v.valid) k)

    module _ (there : eqb kind 0 ≡ false) where
      fits : T (taken_fits v.flags read)
      unfolding filter_fits
      fits = rw there at read_fits

      row_of_law : (at : ℕ) → at + most_data ≤ filters_size → T (all_zero (drop (size_at m j) (row_of m at))) → Row (size_at m j) (row_of m at)
      row_of_law at k t =
          record {
            long = length-take-le most_data (drop at m) (omega (arith, length-drop at m, v.long));
            bytes = all_take is_byte most_data (drop at m) (all_drop is_byte at m bytes);
            clean = t;
          }

      mask_row : Row (size_at m j) mask
      mask_row = row_of_law (mask_from j) (omega arith) (filter_fits_law v.flags kind (size_at m j) width mask pattern fits).mask_ends

      pattern_row : Row (size_at m j) pattern
      pattern_row = row_of_law (pattern_from j) (omega arith) (filter_fits_law v.flags kind (size_at m j) width mask pattern fits).pattern_ends

      kept_is : kept_at m wide id j ≡ (beq wide width && eqb (bit_and id (id_of mask)) (id_of pattern))
      unfolding kept_at
      kept_is =
          ap₂ (λ (b c : Bool). not b && beq wide width && c) there
          (ap₂ (λ (a b : ℕ). eqb (bit_and id a) b) (sym (id_row (drop (mask_from j) m))) (sym (id_row (drop (pattern_from j) m))))

    kept_none : eqb kind 0 ≡ true → kept_at m wide id j ≡ false
    unfolding kept_at
    kept_none e = ap (λ (b : Bool). not b && beq wide width && eqb (bit_and id (id_of (drop (mask_from j) m))) (id_of (drop (pattern_from j) m))) e

    -- the place, where it is told whether it is empty
    abbrev found : Bool → Option Filter
    found b = if b then none else some (record { block = eqb kind 2; wide = width; size = size_at m j; mask = mask; pattern = pattern })

    kind_is : (f : Filter) (b : Bool) → found b ≡ some f → f.block ≡ eqb kind 2
    kind_is f true q = cc
    kind_is f false q =
        let u : record { block = eqb kind 2; wide = width; size = size_at m j; mask = mask; pattern = pattern } ≡ f = cc in ap (λ (g : Filter). g.block) (sym u)

    short_at : (b : Bool) → eqb kind 0 ≡ b → size_at m j ≤ least_data → mask_at m wide id j ≡ 0
    unfolding mask_at data_at
    short_at true e s = unfold mask_word in ap (λ (b : Bool). if b then value (drop least_data mask) else 0) (kept_none e)
    short_at false e s = short_mask id (size_at m j) mask pattern (mask_row e) (pattern_row e) (size_small m v j h) (kept_at m wide id j) s

    met_at : (n x : ℕ) (b : Bool) → eqb kind 0 ≡ b
        → met_by wide (id_bytes id ++ digits n x) (found b) ≡ (leb (size_at m j) (least_data + n) && eqb (bit_and x (mask_at m wide id j)) (pattern_at m wide id j))
    unfolding met_by mask_at pattern_at data_at
    met_at n x true e =
        sym (ap (λ (b : Bool). leb (size_at m j) (least_data + n) && eqb (bit_and x (mask_word b (value (drop least_data mask)))) (pattern_word b (value (drop least_data pattern)))) (kept_none e)
        ∙ unfold mask_word pattern_word in ap (λ (b : Bool). leb (size_at m j) (least_data + n) && b) (none_left x) ∙ and_false (leb (size_at m j) (least_data + n)))
    met_at n x false e =
        meets_words id (size_at m j) mask pattern (mask_row e) (pattern_row e) (size_small m v j h) (eqb kind 2) width wide n x
        ∙ ap (λ (b : Bool). leb (size_at m j) (least_data + n) && eqb (bit_and x (mask_word b (value (drop least_data mask)))) (pattern_word b (value (drop least_data pattern)))) (sym (kept_is e))

  pub conds : (ms ps : List ℕ) → ms ≡ listed most_places (mask_at m wide id) → ps ≡ listed most_places (pattern_at m wide id) → Conds fs wide (id_bytes id) m ms ps
  conds ms ps em ep =
      let mask_is : (j : ℕ) → j < most_places → get_or ms j 0 ≡ mask_at m wide id j = λ j h. ap (λ (l : List ℕ). get_or l j 0) em ∙ listed_at (mask_at m wide id) most_places j 0 h in
      let pattern_is : (j : ℕ) → j < most_places → get_or ps j 0 ≡ pattern_at m wide id j = λ j h. ap (λ (l : List ℕ). get_or l j 0) ep ∙ listed_at (pattern_at m wide id) most_places j 0 h in
      record {
        ten = ten_held m v flags;
        small = λ j h. size_small m v j h;
        short = λ j h s. mask_is j h ∙ short_at j h (eqb (get_or m j 0) 0) refl s;
        kind = λ j f h e. kind_is j h f (eqb (get_or m j 0) 0) (sym (place j h) ∙ e);
        met =
            λ j h n x.
            ap (met_by wide (id_bytes id ++ digits n x)) (place j h)
            ∙ met_at j h n x (eqb (get_or m j 0) 0) refl
            ∙ sym (ap₂ (λ (a b : ℕ). leb (size_at m j) (least_data + n) && eqb (bit_and x a) b) (mask_is j h) (pattern_is j h));
      }
