-- `iso_retaking::again` meets its contract: the bytes of the flight are those of its frame. Assumes nothing.
use Rattle.iso_retaking.proofs.Laws.{take_again}
use Rattle.iso_retaking.proofs.again.Goals as goal

-- src/lib.rt:19:1
pub returns : goal.returns
returns c =
    λ rates t. take_again c.args.r.now c.requires.0 rates t c.args.buffer.now c.requires.2 c.requires.1 c.copy.new.d c.copy.ensures
