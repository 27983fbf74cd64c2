-- `message::put_clean` meets its contract: the bytes of a record of raw CAN. Assumes nothing.
use mathlib.Core.Path.{◌∙◌}
use Rattle.message.proofs.Laws.{raw_clean}
use Rattle.message.proofs.put_clean.Goals as goal

pub returns : goal.returns
returns c =
    c.put_bytes.ensures ∙ raw_clean c.args.cell.now c.args.m.now c.requires.0
