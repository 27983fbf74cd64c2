use mathlib.Core.Path.{◌≡◌}
use lib.ListN.{take}
use lib.Dec.{eqb}
use Rattle.codec.specs.Plain.{all_zero}
use Rattle.octets.proofs.all_zero.Given as goal

abbrev pub invariant-loop-b : goal.invariant-loop-b
invariant-loop-b l = eqb l.any 0 ≡ all_zero (take l.b-index l.s)
