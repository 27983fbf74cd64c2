-- `iso_records::put_clean` meets its contract: the bytes of a record of 536 bytes. Assumes nothing.
use mathlib.Core.Path.{◌∙◌}
use Rattle.iso_records.proofs.Laws.{clean_put}
use Rattle.iso_records.proofs.put_clean.Goals as goal

pub returns : goal.returns
returns c =
    c.put_bytes.ensures ∙ clean_put c.args.cell.now c.args.m.now c.requires.0
