-- Eight tests as a byte. Assumes nothing.
use mathlib.Core.Path.{◌≡◌}
use Prim.Native.Nat.{ℕ, ◌+◌, ◌*◌}
use native.Mathlib.Omega.{arith}
use mathlib.Core.Bool.{Bool}
use lib.Dec.{eqb}
use lib.Bits.{bit_and}
use Rattle.codec.specs.Code.{mark_of}
use Rattle.map_rule.specs.Map.{packed}
use Rattle.map_bands.specs.Bands.{eight}

eight_sum : (p : ℕ → Bool) → mark_of (p 0) + 2 * mark_of (p 1) + 4 * mark_of (p 2) + 8 * mark_of (p 3) + 16 * mark_of (p 4) + 32 * mark_of (p 5) + 64 * mark_of (p 6) + 128 * mark_of (p 7) ≡ packed 8 p
unfolding packed
eight_sum p = omega arith

pub eight_is : (m p a b c d e f g h : ℕ) → a ≡ mark_of (eqb (bit_and 0 m) p) → b ≡ mark_of (eqb (bit_and 1 m) p) → c ≡ mark_of (eqb (bit_and 2 m) p) → d ≡ mark_of (eqb (bit_and 3 m) p)
    → e ≡ mark_of (eqb (bit_and 4 m) p) → f ≡ mark_of (eqb (bit_and 5 m) p) → g ≡ mark_of (eqb (bit_and 6 m) p) → h ≡ mark_of (eqb (bit_and 7 m) p)
    → a + 2 * b + 4 * c + 8 * d + 16 * e + 32 * f + 64 * g + 128 * h ≡ eight m p
unfolding eight
eight_is m p a b c d e f g h ea eb ec ed ee ef eg eh = omega (arith, eight_sum (λ j. eqb (bit_and j m) p))
