-- `iso_queue::drop_oldest` meets its contract: the bytes that are left. Assumes nothing.
use native.Mathlib.Omega.{arith}
use lib.ListN.{length-set}
use Rattle.iso_queue.proofs.Laws.{left_behind}
use Rattle.iso_queue.proofs.drop_oldest.Goals as goal

pub bounds-q-4289 : goal.bounds-q-4289
bounds-q-4289 c = simp length-set (omega arith)

pub returns : goal.returns
returns c = λ flags v. left_behind flags c.args.q.now c.requires.0 v c.args.m c.move_down.new.d c.requires.1 c.move_down.ensures
