-- `iso_records::put` meets its contract: six numbers, then the data and zeros. Assumes nothing.
use mathlib.Core.Path.{refl}
use Rattle.iso_records.proofs.Laws.{told_put}
use Rattle.iso_records.proofs.put.Goals as goal

pub returns : goal.returns
returns c =
    let args = c.args in
    let extra = c.extra_index-extra in
    let head = c.put_numbers in
    let tail = c.put_frame in
    told_put args.cell.now head.new.h tail.new.d args.rx args.tx args.time _ _ args.id args.bytes.now c.requires.0 refl extra.ensures head.ensures tail.ensures
