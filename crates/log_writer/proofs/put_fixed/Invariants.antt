use Rattle.log_writer.proofs.Digits.{Begun}
use Rattle.log_writer.proofs.put_fixed.Given as goal

abbrev pub invariant-loop-k : goal.invariant-loop-k
invariant-loop-k l = Begun l.initial.out l.at l.base l.count l.value l.out l.rest l.k
