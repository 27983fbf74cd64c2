-- `iso_queue::arrive` meets its contract: the record is the last, or is lost. Assumes nothing.
use mathlib.Core.List.{◌++◌}
use Rattle.machine.specs.Message.{id_bytes, Rec, received}
use Rattle.iso_queue.proofs.Laws.{is_lost, is_last}
use Rattle.iso_queue.proofs.arrive.Goals as goal

pub returns-then-held-lt-MOST : goal.returns-then-held-lt-MOST
returns-then-held-lt-MOST c =
    let args = c.args in
    let y : Rec = received args.clock args.rx (id_bytes args.id ++ args.payload.now) in
    let put = c.put_received in
    λ flags v. is_last flags args.q.now c.requires.0 v y put.new.cell c.if-held-lt-MOST.true put.ensures

pub returns : goal.returns
returns c = λ flags v. is_lost flags c.args.q.now c.requires.0 v _ c.if-held-lt-MOST.false
