-- `iso_launching::launch` meets its contract: the frame, then the two bytes before it. Assumes nothing.
use Rattle.iso.specs.Limits.{iso_record_size}
use Rattle.iso.specs.Iso.{framed}
use Rattle.iso_launching.proofs.Laws.{two_there, launched}
use Rattle.iso_launching.proofs.launch.Goals as goal

-- src/lib.rt:26:5
pub bounds-f-1 : goal.bounds-f-1
bounds-f-1 c = two_there c.args.f.now c.put_framed.new.cell iso_record_size _ c.requires.0

-- src/lib.rt:20:1
pub returns : goal.returns
returns c =
    launched c.args.f.now c.put_framed.new.cell c.args.owner (framed c.args.wide c.args.id c.args.bytes.now) c.requires.0 c.put_framed.ensures
