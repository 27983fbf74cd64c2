-- The entries of a store as they are written: of one place, of ten places, and of the whole. Assumes nothing.
use Prim.Native.Nat.{ℕ, ◌+◌, ◌*◌, ◌-◌, ◌≤◌, ◌<◌}
use native.Mathlib.Numerals.{add-one}
use native.Mathlib.Omega.{arith}
use mathlib.Core.Path.{◌≡◌, sym, ap, ◌∙◌}
use mathlib.Core.List.{List, ◌++◌}
use lib.ListN.{length, get_or, take, drop, length-take, length-drop}
use Rattle.number.specs.Number.{bytes_of}
use Rattle.machine.specs.Limits.{most_places, most_data, record_size}
use Rattle.machine.specs.Message.{shown}
use Rattle.machine.specs.Filter.{Slots}
use Rattle.machine.specs.Store.{slots_bytes, filter_bytes, periodic_bytes}
use Rattle.setups.specs.Good.{clean_rec}
use Rattle.layout.specs.Sizes.{sizes_in, masks_in, patterns_in, messages_in}
use Rattle.filterbank.specs.Part.{FilterPart}
use Rattle.filterbank.proofs.Held.{size_small}
use Rattle.stores.specs.Periodics.{PeriodicPart}
use Rattle.answers.specs.Put.{Put}
use Rattle.answers.proofs.Put.{put_same}
use Rattle.store_sizes.specs.Entries.{entry_of, entries_from, taken_from, filters_of, periodics_of}
use Rattle.store_sizes.proofs.Turns.{entries_turn, entries_end}
use Rattle.store_sizes.proofs.Filters.{row_in, wide_in, filter_none, filter_entry_law}
use Rattle.store_sizes.proofs.Periodics.{interval_in, periodic_none, periodic_some}
use Rattle.store_sizes.proofs.Store.{slots_are}
use Rattle.saving.specs.Entry.{entry_at}
use Rattle.saving.proofs.Going.{put_nothing, Going, going_from, going_same, going_done}

-- ---- a filter

-- a row up to its size, as it is lent
abbrev pub lent_row : List ℕ → ℕ → ℕ → List ℕ
lent_row m i at = take (at + i * most_data + get_or m (sizes_in + i) 0 - (at + i * most_data)) (drop (at + i * most_data) m)

module _ (m : List ℕ) (v : FilterPart m) (i : ℕ) (h : i < most_places) where
  lent_is : (at : ℕ) → lent_row m i at ≡ row_in m i at
  lent_is at = let e : at + i * most_data + get_or m (sizes_in + i) 0 - (at + i * most_data) ≡ get_or m (sizes_in + i) 0 = omega arith in ap (λ (k : ℕ). take k (drop (at + i * most_data) m)) e

  pub lent_short : (at : ℕ) → length (lent_row m i at) ≤ most_data
  lent_short at = omega (arith, ap length (lent_is at), length-take (get_or m (sizes_in + i) 0) (drop (at + i * most_data) m), size_small m v i h)

  module _ (b : List ℕ) (at : ℕ) where
    pub filter_empty : get_or m i 0 ≡ 0 → Put b at (entry_at filter_bytes (filters_of m) i) at b
    unfolding entry_at entry_of
    filter_empty e = put_same (ap (entry_of filter_bytes i) (sym (filter_none m v i h e))) (put_nothing b at)

    pub filter_from : (k : ℕ) → k ≡ get_or m i 0 → (k ≡ 0 → ⊥) → at + length (entry_at filter_bytes (filters_of m) i) ≤ length b
        → Going b at (entry_at filter_bytes (filters_of m) i) (bytes_of (i + 1) ++ (bytes_of k ++ (shown (clean_rec (wide_in m i) (lent_row m i masks_in)) ++ shown (clean_rec (wide_in m i) (lent_row m i patterns_in))))) at b
    unfolding entry_at
    filter_from k e n r =
        going_same
        (filter_entry_law m v i h (λ z. n (e ∙ z))
        ∙ sym (λ j. bytes_of (add-one i j) ++ (bytes_of (e j) ++ (shown (clean_rec (wide_in m i) (lent_is masks_in j)) ++ shown (clean_rec (wide_in m i) (lent_is patterns_in j))))))
        (going_from b at (entry_at filter_bytes (filters_of m) i) r)

-- ---- a periodic

-- its record, as it is lent
abbrev pub lent_record : List ℕ → ℕ → List ℕ
lent_record m i = take (messages_in + i * record_size + record_size - (messages_in + i * record_size)) (drop (messages_in + i * record_size) m)

pub record_long : (m : List ℕ) → PeriodicPart m → (i : ℕ) → i < most_places → length (lent_record m i) ≡ record_size
record_long m v i h =
    omega (arith, length-take (messages_in + i * record_size + record_size - (messages_in + i * record_size)) (drop (messages_in + i * record_size) m), length-drop (messages_in + i * record_size) m, v.long)

module _ (m : List ℕ) (v : PeriodicPart m) (i : ℕ) (h : i < most_places) (b : List ℕ) (at : ℕ) where
  pub periodic_empty : interval_in m i ≡ 0 → Put b at (entry_at periodic_bytes (periodics_of m) i) at b
  unfolding entry_at entry_of
  periodic_empty e = put_same (ap (entry_of periodic_bytes i) (sym (periodic_none m v i h e))) (put_nothing b at)

  pub periodic_from : (k : ℕ) → k ≡ interval_in m i → (k ≡ 0 → ⊥) → at + length (entry_at periodic_bytes (periodics_of m) i) ≤ length b
      → Going b at (entry_at periodic_bytes (periodics_of m) i) (bytes_of (i + 1) ++ (lent_record m i ++ bytes_of k)) at b
  unfolding entry_at
  periodic_from k e n r =
      let s : messages_in + i * record_size + record_size - (messages_in + i * record_size) ≡ record_size = omega arith in
      going_same
      (periodic_some m v i h (λ z. n (e ∙ z)) ∙ sym (λ j. bytes_of (add-one i j) ++ (take (s j) (drop (messages_in + i * record_size) m) ++ bytes_of (e j))))
      (going_from b at (entry_at periodic_bytes (periodics_of m) i) r)

-- ---- ten places

module _ {A : Type 0} (w : A → List ℕ) (s : Slots A) where
  -- the count, then the entries
  pub slots_from : (b : List ℕ) (at k : ℕ) → k ≡ taken_from 0 s → at + length (slots_bytes w s) ≤ length b → Going b at (slots_bytes w s) (bytes_of k ++ entries_from w 0 s) at b
  slots_from b at k e r = going_same (slots_are w s ∙ ap (λ (j : ℕ). bytes_of j ++ entries_from w 0 s) (sym e)) (going_from b at (slots_bytes w s) r)

  module _ (ten : length s ≡ most_places) {b whole after : List ℕ} {at n : ℕ} (i : ℕ) (g : Going b at whole (entries_from w i s) n after) where
    -- the next place
    pub place_next : i < most_places → Going b at whole (entry_at w s i ++ entries_from w (i + 1) s) n after
    unfolding entry_at
    place_next h = going_same (entries_turn w s i (omega arith)) g

    -- no place is left
    pub places_done : most_places ≤ i → Put b at whole n after
    places_done h = going_done (going_same (entries_end w s i (omega arith)) g)
