-- Digits of either case, by `refl`. Assumes nothing.
use mathlib.Core.List.{List, [], ◌∷◌, map}
use mathlib.Core.Option.{Option, none, some}
use mathlib.Core.Path.{◌≡◌, refl}
use Prim.Native.Nat.{ℕ}
use Rattle.text.specs.Text.{digit_in}

pub read_so : List ℕ → List (Option ℕ)
unfolding digit_in
read_so l = map digit_in l

-- 0 and 9, A and F, a and f, and what stands on either side of them
pub digits : read_so (0x30 ∷ 0x39 ∷ 0x41 ∷ 0x46 ∷ 0x61 ∷ 0x66 ∷ []) ≡ some 0 ∷ some 9 ∷ some 10 ∷ some 15 ∷ some 10 ∷ some 15 ∷ []
unfolding read_so
digits = refl

pub none_there : read_so (0x2F ∷ 0x3A ∷ 0x40 ∷ 0x47 ∷ 0x60 ∷ 0x67 ∷ []) ≡ none ∷ none ∷ none ∷ none ∷ none ∷ none ∷ []
unfolding read_so
none_there = refl
