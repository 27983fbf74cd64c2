-- `queue::arrive` meets its contract: the record is the last, or is lost. Assumes nothing.
use mathlib.Core.List.{◌++◌}
use Rattle.machine.specs.Message.{id_bytes, Rec, received}
use Rattle.queue.proofs.Laws.{is_lost, is_last}
use Rattle.queue.proofs.arrive.Goals as goal

pub returns-then-held-lt-MOST : goal.returns-then-held-lt-MOST
returns-then-held-lt-MOST c =
    let args = c.args in
    let y : Rec = received args.clock args.rx (id_bytes args.id ++ args.bytes.now) in
    let put = c.put_received in
    is_last args.r.now c.requires.0 y put.new.cell c.if-held-lt-MOST.true put.ensures

pub returns : goal.returns
returns c = is_lost c.args.r.now c.requires.0 _ c.if-held-lt-MOST.false
