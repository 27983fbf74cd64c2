-- A periodic of a part of a region, as its entry in a store is written. Assumes nothing.
use Prim.Native.Nat.{ℕ, zero, suc, ◌+◌, ◌*◌, ◌≤◌, ◌<◌}
use native.Mathlib.Omega.{arith}
use mathlib.Core.Logic.{⊎_elim}
use mathlib.Core.Bool.{Bool, true, false, not}
use borrow.Author.Tests.{eqb-true, eqb-false}
use mir.Val.{bool_byte}
use lib.Dec.{eqb}
use lib.Seq.{length-take-le}
use mathlib.Core.Path.{◌≡◌, refl, sym, ap, ap₂, ◌∙◌}
use mathlib.Core.Option.{Option, none}
use mathlib.Core.List.{List, ◌++◌, map}
use lib.ListN.{length, get_or, take, drop, length-map, length-append, length-drop, get_or-map}
use Rattle.codec.specs.Word.{word_at}
use Rattle.number.specs.Number.{bytes_of}
use Rattle.number.proofs.Groups.{below}
use Rattle.number.proofs.Laws.{written_short}
use Rattle.answers.proofs.Size.{one_byte}
use Rattle.machine.specs.Limits.{most_places, record_size}
use Rattle.machine.specs.Message.{Rec}
use Rattle.machine.specs.Filter.{Slots, taken}
use Rattle.machine.specs.Store.{periodic_bytes}
use Rattle.machine.specs.Channel.{Periodic, saved_of}
use Rattle.layout.specs.Sizes.{messages_in, number_size}
use Rattle.layout.specs.Memory.{periodic_parts}
use Rattle.layout.proofs.Memory.{shown_is}
use Rattle.stores.specs.Periodics.{PeriodicPart}
use Rattle.stores.proofs.Periodics.{held, held_at, any_get, ten_held, interval_at, message_at, empty_at, taken_at}
use Rattle.store_sizes.specs.Entries.{entry_of, entries_from, taken_from, periodics_of}
use Rattle.store_sizes.proofs.Turns.{one, taken_turn, taken_end, entries_end, entries_longer}

-- the interval of a place, and the entry of a taken one
abbrev pub interval_in : List ℕ → ℕ → ℕ
interval_in m i = word_at (i * number_size) m

abbrev pub periodic_entry : List ℕ → ℕ → List ℕ
periodic_entry m i = bytes_of (suc i) ++ (take record_size (drop (messages_in + i * record_size) m) ++ bytes_of (interval_in m i))

module _ (m : List ℕ) (v : PeriodicPart m) where
  saved_is : periodics_of m ≡ map saved_of (held m v)
  unfolding periodics_of
  saved_is = ap (λ (ps : Slots Periodic). map saved_of ps) (any_get 0 v.flags m)

  pub ten_periodics : length (periodics_of m) ≡ most_places
  ten_periodics = ap length saved_is ∙ length-map (held m v) saved_of ∙ ten_held m v

  module _ (i : ℕ) (h : i < most_places) where
    saved_at : get_or (periodics_of m) i none ≡ saved_of (held_at m v i h)
    unfolding saved_of
    saved_at = ap (λ (s : Slots (Rec × ℕ)). get_or s i none) saved_is ∙ get_or-map saved_of (held m v) i none

    pub periodic_none : interval_in m i ≡ 0 → get_or (periodics_of m) i none ≡ none
    unfolding saved_of
    periodic_none e = saved_at ∙ ap saved_of (empty_at m v i h e)

    pub periodic_some : (interval_in m i ≡ 0 → ⊥) → entry_of periodic_bytes i (get_or (periodics_of m) i none) ≡ periodic_entry m i
    unfolding saved_of entry_of periodic_bytes
    periodic_some n =
        let t = taken_at m v i h n in
        let p : Periodic = t.one in
        ap (entry_of periodic_bytes i) (saved_at ∙ ap saved_of t.is)
        ∙ ap₂ (λ (b : List ℕ) (k : ℕ). bytes_of (suc i) ++ (b ++ bytes_of k))
        (shown_is p.message ∙ sym (message_at m v i h p t.is))
        (sym (interval_at m v i h ∙ ap (λ (x : Option Periodic). (periodic_parts x).0) t.is))

    -- how many there are at the place
    periodic_is : one (get_or (periodics_of m) i none) ≡ bool_byte (not (eqb (interval_in m i) 0))
    unfolding taken saved_of
    periodic_is = go (eqb (interval_in m i) 0) refl
      where
        go : (t : Bool) → eqb (interval_in m i) 0 ≡ t → one (get_or (periodics_of m) i none) ≡ bool_byte (not t)
        go true e = ap one (periodic_none (eqb-true _ _ e))
        go false e = ap one (saved_at ∙ ap saved_of (taken_at m v i h (eqb-false _ _ e)).is)

    pub periodics_turn : taken_from i (periodics_of m) ≡ bool_byte (not (eqb (interval_in m i) 0)) + taken_from (i + 1) (periodics_of m)
    periodics_turn = taken_turn (periodics_of m) i (omega (arith, ten_periodics)) ∙ ap (λ (k : ℕ). k + taken_from (i + 1) (periodics_of m)) periodic_is

    -- how many bytes it takes
    pub no_bytes : interval_in m i ≡ 0 → 0 ≡ length (entry_of periodic_bytes i (get_or (periodics_of m) i none))
    unfolding entry_of
    no_bytes e = sym (ap (λ (x : Option (Rec × ℕ)). length (entry_of periodic_bytes i x)) (periodic_none e))

    record_long : length (take record_size (drop (messages_in + i * record_size) m)) ≡ record_size
    record_long = length-take-le record_size (drop (messages_in + i * record_size) m) (omega (arith, length-drop (messages_in + i * record_size) m, v.long))

    pub some_bytes : (interval_in m i ≡ 0 → ⊥) → 37 + length (bytes_of (interval_in m i)) ≡ length (entry_of periodic_bytes i (get_or (periodics_of m) i none))
    some_bytes n =
        let b : List ℕ = take record_size (drop (messages_in + i * record_size) m) in
        omega (arith, ap length (periodic_some n), length-append (bytes_of (suc i)) (b ++ bytes_of (interval_in m i)), length-append b (bytes_of (interval_in m i)), record_long, one_byte (suc i) (omega arith))

    pub few_bytes : length (entry_of periodic_bytes i (get_or (periodics_of m) i none)) ≤ 100
    few_bytes =
        ⊎_elim (λ (l : interval_in m i < 1). omega (arith, no_bytes (omega arith)))
        (λ (l : 1 ≤ interval_in m i). omega (arith, some_bytes (λ e. omega arith), (written_short (interval_in m i)).1))
        (below (interval_in m i) 1)

    pub bytes_turn : length (entries_from periodic_bytes i (periodics_of m)) ≡ length (entry_of periodic_bytes i (get_or (periodics_of m) i none)) + length (entries_from periodic_bytes (i + 1) (periodics_of m))
    bytes_turn = entries_longer periodic_bytes (periodics_of m) i (omega (arith, ten_periodics))

  pub periodics_end : taken_from most_places (periodics_of m) ≡ 0
  periodics_end = taken_end (periodics_of m) most_places (omega (arith, ten_periodics))

  pub bytes_end : length (entries_from periodic_bytes most_places (periodics_of m)) ≡ 0
  bytes_end = ap length (entries_end periodic_bytes (periodics_of m) most_places (omega (arith, ten_periodics)))

  from_short : (n i : ℕ) → i + n ≡ most_places → length (entries_from periodic_bytes i (periodics_of m)) ≤ 100 * n
  from_short zero i e = let z : i ≡ most_places = omega arith in omega (arith, ap (λ (k : ℕ). length (entries_from periodic_bytes k (periodics_of m))) z, bytes_end)
  from_short (suc n) i e = let h : i < most_places = omega arith in omega (arith, bytes_turn i h, few_bytes i h, from_short n (i + 1) (omega arith))

  pub periodics_short : length (entries_from periodic_bytes 0 (periodics_of m)) ≤ 1000
  periodics_short = from_short most_places 0 (omega arith)
