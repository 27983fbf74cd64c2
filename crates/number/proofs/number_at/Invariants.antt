use Rattle.number.proofs.Reading.{Passed}
use Rattle.number.proofs.number_at.Given as goal

abbrev pub invariant-loop-place : goal.invariant-loop-place
invariant-loop-place l = Passed l.bytes l.at l.place l.value l.unit
