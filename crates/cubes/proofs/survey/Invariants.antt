use Prim.Native.Nat.{◌-◌}
use Rattle.cubes.proofs.Look.{Looked}
use Rattle.cubes.proofs.survey.Given as goal

abbrev pub invariant-loop-i : goal.invariant-loop-i
invariant-loop-i l = Looked l.ms l.ps l.cm l.cp l.i l.ones l.zeros

abbrev pub decreases-loop-i : goal.decreases-loop-i
decreases-loop-i l = 10 - l.i
