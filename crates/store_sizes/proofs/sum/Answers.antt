-- `store_sizes::sum` meets its contract. The invariant: what is summed up before place i, and what is left. Assumes nothing.
use native.Mathlib.Omega.{arith}
use Rattle.store_sizes.proofs.sum.Goals as goal

pub overflow_add-sum : goal.overflow_add-sum
overflow_add-sum g c = record { fits = omega (arith, c.loop-i.invariant.0, (c.requires c.loop-i.i c.loop-i-test.true).1 _ c.of-sum.ensures) }

pub loop-i-preserved : goal.loop-i-preserved
loop-i-preserved g c = (
  omega (arith, c.loop-i.invariant.0, (c.requires c.loop-i.i c.loop-i-test.true).1 _ c.of-sum.ensures),
  λ left f. omega (arith, c.loop-i.invariant.1 left f, f _ _ c.loop-i-test.true c.of-sum.ensures),
)
