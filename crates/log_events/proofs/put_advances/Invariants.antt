use Rattle.log_events.proofs.Putting.{Filled}
use Rattle.log_events.proofs.put_advances.Given as goal

abbrev pub invariant-loop-k : goal.invariant-loop-k
invariant-loop-k l = Filled l.initial.out l.at l.apart l.out l.place l._k
