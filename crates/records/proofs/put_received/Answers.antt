-- `records::put_received` meets its contract: six numbers, then the frame. Assumes nothing.
use mathlib.Core.Path.{refl}
use Rattle.records.proofs.Laws.{received_put}
use Rattle.records.proofs.put_received.Goals as goal

pub returns : goal.returns
returns c =
    let args = c.args in
    let head = c.put_numbers in
    let tail = c.put_frame in
    received_put args.cell.now head.new.h tail.new.d args.clock args.rx _ args.id args.bytes.now c.requires.0 refl head.ensures tail.ensures
