-- `queue::drop_oldest` meets its contract: the bytes that are left. Assumes nothing.
use native.Mathlib.Omega.{arith}
use lib.ListN.{length-set}
use Rattle.queue.proofs.Laws.{left_behind}
use Rattle.queue.proofs.drop_oldest.Goals as goal

pub bounds-q-1153 : goal.bounds-q-1153
bounds-q-1153 c = simp length-set (omega arith)

pub returns : goal.returns
returns c = λ flags v. left_behind flags c.args.q.now c.requires.0 v c.args.m c.move_down.new.d c.requires.1 c.move_down.ensures
