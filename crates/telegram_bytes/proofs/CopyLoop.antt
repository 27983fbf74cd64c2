-- A loop that copies a list over another from the front, one store a turn. Assumes nothing.
use Prim.Native.Nat.{ℕ, zero, suc, ◌+◌, ◌<◌}
use mathlib.Core.Path.{◌≡◌, refl, ap}
use mathlib.Core.List.{List, [], ◌∷◌, ◌++◌}
use native.Mathlib.Nat.{not-suc-le-zero, le_of_suc-le-suc}
use native.Mathlib.Numerals.{add-one}
use lib.ListN.{length, get_or, set, take, drop}

copy_suc : (n : ℕ) (s d : List ℕ) → n < length s → n < length d → set (take n s ++ drop n d) n (get_or s n 0) ≡ take (suc n) s ++ drop (suc n) d
copy_suc n [] d h k = absurd (not-suc-le-zero h)
copy_suc n (x ∷ s) [] h k = absurd (not-suc-le-zero k)
copy_suc zero (x ∷ s) (y ∷ d) h k = refl
copy_suc (suc n) (x ∷ s) (y ∷ d) h k = ap (x ∷◌) (copy_suc n s d (le_of_suc-le-suc h) (le_of_suc-le-suc k))

-- after n turns the first n are copied; a turn copies one more
pub copy_more : (n : ℕ) (s d : List ℕ) → n < length s → n < length d → set (take n s ++ drop n d) n (get_or s n 0) ≡ take (n + 1) s ++ drop (n + 1) d
copy_more n s d h k = rw (add-one n) (copy_suc n s d h k)
