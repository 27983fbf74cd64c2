-- `writing::queue_all` meets its contract. The invariant: the store is what i records leave, and what is left to write of the others is the whole write.
-- Assumes nothing.
use Rattle.codec.proofs.Lists.{bytes_of_law}
use Rattle.codes.proofs.Laws.{not_done}
use Rattle.writing.proofs.Loop.{turn_stops, turn_more}
use Rattle.writing.proofs.queue_all.Goals as goal

pub returns-in-Err : goal.returns-in-Err
returns-in-Err g c =
    turn_stops c.requires.laws c.loop-i.invariant c.requires.sized c.loop-i-test.true c.requires.whole c.in-Err.ensures (not_done c.in-Err.refusal)

pub loop-i-preserved : goal.loop-i-preserved
loop-i-preserved g c =
    turn_more c.requires.laws c.loop-i.invariant c.requires.sized c.loop-i-test.true c.requires.whole c.in_default.ensures
    (bytes_of_law c.args.buffer.now (λ i. (c.type_inv.buffer i).fits))
