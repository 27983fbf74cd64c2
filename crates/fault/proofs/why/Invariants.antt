use Rattle.fault.proofs.Passing.{Passed}
use Rattle.fault.proofs.why.Given as goal

abbrev pub invariant-loop-place : goal.invariant-loop-place
invariant-loop-place l = Passed l.recording l.at l.place
