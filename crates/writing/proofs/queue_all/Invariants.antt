use Rattle.writing.proofs.Loop.{Turn}
use Rattle.writing.proofs.queue_all.Given as goal

abbrev pub invariant-loop-i : goal.invariant-loop-i
invariant-loop-i g l = Turn (g.Q.Queueing.kind l.by) l.n l.buffer l.fn.store l.store l.i
