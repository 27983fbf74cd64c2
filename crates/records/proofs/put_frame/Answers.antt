-- `records::put_frame` meets its contract: an identifier, then bytes and zeros. Assumes nothing.
use mathlib.Core.Path.{refl}
use Rattle.records.proofs.Laws.{frame_put}
use Rattle.records.proofs.put_frame.Goals as goal

pub returns : goal.returns
returns c =
    let id-put = c.put_id in
    let filled = c.put_padded in
    frame_put _ c.args.d.now id-put.new.s filled.new.d c.args.bytes.now c.args.id c.requires id-put.ensures refl filled.ensures
