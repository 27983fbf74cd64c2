-- A filter of a part of a region, as its entry in a store is written. Assumes nothing.
use Prim.Native.Nat.{ℕ, zero, suc, ◌+◌, ◌*◌, ◌≤◌, ◌<◌}
use native.Mathlib.Omega.{arith}
use mathlib.Core.Path.{◌≡◌, refl, sym, ap, ◌∙◌}
use mathlib.Core.Bool.{Bool, true, false, not}
use mathlib.Core.Option.{none, some}
use mathlib.Core.List.{List, ◌++◌}
use borrow.Author.Tests.{eq-eqb, ne_eqb, eqb-true, eqb-false}
use mir.Val.{bool_byte}
use lib.Dec.{eqb}
use lib.ListN.{length, get_or, take, drop, length-append, length-take}
use lib.Seq.{take-take}
use Rattle.number.specs.Number.{bytes_of}
use Rattle.machine.specs.Limits.{most_places, most_data}
use Rattle.machine.specs.Message.{shown}
use Rattle.machine.specs.Filter.{taken, type_of}
use Rattle.machine.specs.Store.{row_record, filter_bytes}
use Rattle.setups.specs.Good.{clean_rec}
use Rattle.setups.proofs.Records.{shown_long}
use Rattle.layout.specs.Sizes.{widths_in, sizes_in, masks_in, patterns_in}
use Rattle.layout.specs.Memory.{FilterRow, filter_back}
use Rattle.filterbank.specs.Part.{FilterPart}
use Rattle.filterbank.proofs.Held.{row_at, held_at, type_at, width_at, size_at_law, mask_at, pattern_at_law, size_small, kind_known, ten_held}
use Rattle.answers.proofs.Size.{one_byte}
use Rattle.store_sizes.specs.Entries.{entry_of, entries_from, taken_from, filters_of}
use Rattle.store_sizes.proofs.Turns.{one, taken_turn, taken_end, entries_end, entries_longer}

-- a type is 1 or 2
kind_back : (k : ℕ) → k ≤ 2 → (k ≡ 0 → ⊥) → type_of (eqb k 2) ≡ k
kind_back zero h n = absurd (n refl)
kind_back (suc zero) h n = refl
kind_back (suc (suc zero)) h n = refl
kind_back (suc (suc (suc k))) h n = absurd (omega arith)

back_none : (p : FilterRow) → p.0 ≡ 0 → filter_back p ≡ none
back_none p e = rw (eq-eqb p.0 0 e)

back_some : (p : FilterRow) → (p.0 ≡ 0 → ⊥)
    → filter_back p ≡ some (record { block = eqb p.0 2; wide = p.1.0; size = p.1.1.0; mask = p.1.1.1.0; pattern = p.1.1.1.1 })
back_some p n = rw (ne_eqb p.0 0 n)

-- the bytes of a row up to the size
abbrev pub row_in : List ℕ → ℕ → ℕ → List ℕ
row_in m i at = take (get_or m (sizes_in + i) 0) (drop (at + i * most_data) m)

abbrev pub wide_in : List ℕ → ℕ → Bool
wide_in m i = eqb 1 (get_or m (widths_in + i) 0)

-- the entry of a taken place
abbrev pub filter_entry : List ℕ → ℕ → List ℕ
filter_entry m i = bytes_of (suc i) ++ (bytes_of (get_or m i 0) ++ (shown (clean_rec (wide_in m i) (row_in m i masks_in)) ++ shown (clean_rec (wide_in m i) (row_in m i patterns_in))))

module _ (m : List ℕ) (v : FilterPart m) where
  pub ten_filters : length (filters_of m) ≡ most_places
  unfolding filters_of
  ten_filters = ten_held m v 0

  module _ (i : ℕ) (h : i < most_places) where
    pub filter_none : get_or m i 0 ≡ 0 → get_or (filters_of m) i none ≡ none
    unfolding filters_of
    filter_none e = held_at m v i h 0 ∙ back_none (row_at m v i h) (sym (type_at m v i h) ∙ e)

    filter_some : (get_or m i 0 ≡ 0 → ⊥)
        → get_or (filters_of m) i none
        ≡ some (record { block = eqb (get_or m i 0) 2; wide = wide_in m i; size = get_or m (sizes_in + i) 0; mask = take most_data (drop (masks_in + i * most_data) m); pattern = take most_data (drop (patterns_in + i * most_data) m) })
    unfolding filters_of
    filter_some n =
        held_at m v i h 0 ∙ back_some (row_at m v i h) (λ e. n (type_at m v i h ∙ e))
        ∙ sym (λ j. some (record { block = eqb (type_at m v i h j) 2; wide = width_at m v i h j; size = size_at_law m v i h j; mask = mask_at m v i h j; pattern = pattern_at_law m v i h j }))

    pub row_is : (at : ℕ) → take (get_or m (sizes_in + i) 0) (take most_data (drop (at + i * most_data) m)) ≡ row_in m i at
    row_is at = take-take (get_or m (sizes_in + i) 0) most_data (drop (at + i * most_data) m) (size_small m v i h)

    pub filter_entry_law : (get_or m i 0 ≡ 0 → ⊥) → entry_of filter_bytes i (get_or (filters_of m) i none) ≡ filter_entry m i
    unfolding entry_of filter_bytes row_record
    filter_entry_law n =
        ap (entry_of filter_bytes i) (filter_some n)
        ∙ (λ j. bytes_of (suc i) ++ (bytes_of (kind_back (get_or m i 0) (kind_known m v i h) n j)
        ++ (shown (clean_rec (wide_in m i) (row_is masks_in j)) ++ shown (clean_rec (wide_in m i) (row_is patterns_in j)))))

    pub no_filter_entry : get_or m i 0 ≡ 0 → entry_of filter_bytes i (get_or (filters_of m) i none) ≡ entry_of filter_bytes i none
    no_filter_entry e = ap (entry_of filter_bytes i) (filter_none e)

    -- how many there are at the place
    pub filter_is : one (get_or (filters_of m) i none) ≡ bool_byte (not (eqb (get_or m i 0) 0))
    unfolding taken
    filter_is = go (eqb (get_or m i 0) 0) refl
      where
        go : (t : Bool) → eqb (get_or m i 0) 0 ≡ t → one (get_or (filters_of m) i none) ≡ bool_byte (not t)
        go true e = ap one (filter_none (eqb-true _ _ e))
        go false e = ap one (filter_some (eqb-false _ _ e))

    pub filters_turn : taken_from i (filters_of m) ≡ bool_byte (not (eqb (get_or m i 0) 0)) + taken_from (i + 1) (filters_of m)
    filters_turn = taken_turn (filters_of m) i (omega (arith, ten_filters)) ∙ ap (λ (k : ℕ). k + taken_from (i + 1) (filters_of m)) filter_is

  pub filters_end : taken_from most_places (filters_of m) ≡ 0
  filters_end = taken_end (filters_of m) most_places (omega (arith, ten_filters))

  -- ---- 74 bytes each

  module _ (i : ℕ) (h : i < most_places) where
    row_short : (at : ℕ) → length (row_in m i at) ≤ 12
    row_short at = omega (arith, length-take (get_or m (sizes_in + i) 0) (drop (at + i * most_data) m), size_small m v i h)

    entry_long : (get_or m i 0 ≡ 0 → ⊥) → length (entry_of filter_bytes i (get_or (filters_of m) i none)) ≡ 74
    entry_long n =
        let a : List ℕ = shown (clean_rec (wide_in m i) (row_in m i masks_in)) in
        let b : List ℕ = shown (clean_rec (wide_in m i) (row_in m i patterns_in)) in
        omega (
          arith,
          ap length (filter_entry_law i h n),
          length-append (bytes_of (suc i)) (bytes_of (get_or m i 0) ++ (a ++ b)),
          length-append (bytes_of (get_or m i 0)) (a ++ b),
          length-append a b,
          one_byte (suc i) (omega arith),
          one_byte (get_or m i 0) (omega (arith, kind_known m v i h)),
          shown_long (wide_in m i) (row_in m i masks_in) (row_short masks_in),
          shown_long (wide_in m i) (row_in m i patterns_in) (row_short patterns_in),
        )

    each_long : length (entry_of filter_bytes i (get_or (filters_of m) i none)) ≡ 74 * bool_byte (not (eqb (get_or m i 0) 0))
    unfolding entry_of
    each_long = go (eqb (get_or m i 0) 0) refl
      where
        go : (t : Bool) → eqb (get_or m i 0) 0 ≡ t → length (entry_of filter_bytes i (get_or (filters_of m) i none)) ≡ 74 * bool_byte (not t)
        go true e = ap length (no_filter_entry i h (eqb-true _ _ e))
        go false e = entry_long (eqb-false _ _ e)

  from_long : (n i : ℕ) → i + n ≡ most_places → length (entries_from filter_bytes i (filters_of m)) ≡ 74 * taken_from i (filters_of m)
  from_long zero i e =
      omega (arith, ap length (entries_end filter_bytes (filters_of m) i (omega (arith, ten_filters))), taken_end (filters_of m) i (omega (arith, ten_filters)))
  from_long (suc n) i e =
      let h : i < most_places = omega arith in
      omega (arith, entries_longer filter_bytes (filters_of m) i (omega (arith, ten_filters)), filters_turn i h, each_long i h, from_long n (i + 1) (omega arith))

  pub filters_long : length (entries_from filter_bytes 0 (filters_of m)) ≡ 74 * taken_from 0 (filters_of m)
  filters_long = from_long most_places 0 (omega arith)
