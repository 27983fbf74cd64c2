-- Request P11: the advances of a difference of time are as few as possible. Assumes nothing.
use Prim.Native.Nat.{ℕ, zero, suc, ◌+◌, ◌*◌, ◌/◌, ◌%◌, ◌≤◌}
use mathlib.Core.List.{List, [], ◌∷◌}
use native.Mathlib.Omega.{arith}
use lib.ListN.{length, replicate, length-append, length-replicate}
use Rattle.codec.proofs.Lists.{Each}
use Rattle.machine.specs.Step.{advance}
use Rattle.candump.specs.Log.{rest, full, advances}

-- how long some advances last together
unfoldable pub together : List ℕ → ℕ
together [] = 0
together (u ∷ us) = u + together us

at_most : (us : List ℕ) → Each (λ u. u ≤ full) us → together us ≤ full * length us
unfolding together
at_most [] h = omega arith
at_most (u ∷ us) h = omega (arith, h.0, at_most us h.1)

-- the rest is one advance or none
rest_few : (q r k : ℕ) → q * full + r ≤ full * k → q + length (rest r) ≤ k
unfolding rest
rest_few q zero k h = omega arith
rest_few q (suc r) k h = omega arith

-- full ones, and one more where something is left over
count : (n k : ℕ) → n ≤ full * k → length (advances n) ≤ k
unfolding advances
count n k h =
    let parts : n / full * full + n % full ≤ full * k = omega arith in
    omega (
      arith,
      length-append (replicate (n / full) (advance full)) (rest (n % full)),
      length-replicate (n / full) (advance full),
      rest_few (n / full) (n % full) k parts,
    )

-- AS FEW AS POSSIBLE: no advances that are accepted and last as long are fewer
pub fewest : (us : List ℕ) → Each (λ u. u ≤ full) us → length (advances (together us)) ≤ length us
fewest us h = count (together us) (length us) (at_most us h)
