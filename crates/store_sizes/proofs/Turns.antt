-- The store of ten places, one place after the other: of a place and the places behind it. Assumes nothing.
use Rattle.std.specs.Prelude.{if◌then◌else◌}
use Prim.Native.Nat.{ℕ, suc, ◌+◌, ◌≤◌, ◌<◌}
use native.Mathlib.Numerals.{add-one}
use native.Mathlib.Omega.{arith}
use mathlib.Core.Path.{◌≡◌, refl, sym, ap, ◌∙◌}
use mathlib.Core.Bool.{Bool, true, false}
use mir.Val.{bool_byte}
use mathlib.Core.Option.{Option, none, some}
use mathlib.Core.List.{List, [], ◌∷◌, ◌++◌, append_assoc}
use lib.ListN.{length, get_or, drop, length-append, drop_of_length-le}
use lib.Seq.{drop-cons}
use Rattle.number.specs.Number.{bytes_of}
use Rattle.machine.specs.Filter.{Slots, taken}
use Rattle.machine.specs.Store.{numbered, each_bytes}
use Rattle.store_sizes.specs.Entries.{entry_of, entries_from, taken_from}

module _ {A : Type 0} where
  -- one place
  abbrev pub one : Option A → ℕ
  one x = if taken x then 1 else 0

  first_taken : (k : ℕ) (x : Option A) (s : Slots A) → length (numbered k (x ∷ s)) ≡ one x + length (numbered (suc k) s)
  unfolding numbered taken
  first_taken k none s = omega arith
  first_taken k (some a) s = omega arith

  few : (k : ℕ) (s : Slots A) → length (numbered k s) ≤ length s
  unfolding numbered
  few k [] = omega arith
  few k (none ∷ s) = omega (arith, few (suc k) s)
  few k (some a ∷ s) = omega (arith, few (suc k) s)

  pub taken_few : (s : Slots A) → taken_from 0 s ≤ length s
  unfolding taken_from
  taken_few s = few 1 s

  module _ (s : Slots A) (i : ℕ) where
    pub taken_turn : i < length s → taken_from i s ≡ one (get_or s i none) + taken_from (i + 1) s
    unfolding taken_from
    taken_turn h = rw (add-one) (ap (λ (l : Slots A). length (numbered (suc i) l)) (drop-cons s i none h) ∙ first_taken (suc i) (get_or s i none) (drop (suc i) s))

    pub taken_end : length s ≤ i → taken_from i s ≡ 0
    unfolding taken_from numbered
    taken_end h = ap (λ (l : Slots A). length (numbered (suc i) l)) (drop_of_length-le s {i = i} h)

  module _ (w : A → List ℕ) where
    first_entry : (i : ℕ) (x : Option A) (s : Slots A) → each_bytes w (numbered (suc i) (x ∷ s)) ≡ entry_of w i x ++ each_bytes w (numbered (suc (suc i)) s)
    unfolding numbered each_bytes entry_of
    first_entry i none s = refl
    first_entry i (some a) s = sym (append_assoc (bytes_of (suc i)) (w a) (each_bytes w (numbered (suc (suc i)) s)))

    module _ (s : Slots A) (i : ℕ) where
      pub entries_turn : i < length s → entries_from w i s ≡ entry_of w i (get_or s i none) ++ entries_from w (i + 1) s
      unfolding entries_from
      entries_turn h = rw (add-one) (ap (λ (l : Slots A). each_bytes w (numbered (suc i) l)) (drop-cons s i none h) ∙ first_entry i (get_or s i none) (drop (suc i) s))

      pub entries_end : length s ≤ i → entries_from w i s ≡ []
      unfolding entries_from numbered each_bytes
      entries_end h = ap (λ (l : Slots A). each_bytes w (numbered (suc i) l)) (drop_of_length-le s {i = i} h)

      pub entries_longer : i < length s → length (entries_from w i s) ≡ length (entry_of w i (get_or s i none)) + length (entries_from w (i + 1) s)
      entries_longer h = ap length (entries_turn h) ∙ length-append (entry_of w i (get_or s i none)) (entries_from w (i + 1) s)

-- a test as a number
pub test_small : (b : Bool) → bool_byte b ≤ 1
test_small true = omega arith
test_small false = omega arith
