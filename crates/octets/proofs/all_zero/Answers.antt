-- `octets::all_zero` meets its contract. The invariant: the bytes passed are all zeros exactly where their OR is 0. Assumes nothing.
use native.Mathlib.Omega.{arith}
use Rattle.codec.proofs.Lists.{zero_more}
use Rattle.octets.proofs.all_zero.Goals as goal

pub loop-b-preserved : goal.loop-b-preserved
loop-b-preserved c = zero_more c.args.s.now c.loop-b.b-index c.loop-b.any (omega arith) c.loop-b.invariant
