-- `iso_transfers::paced` meets its contract. Assumes nothing.
use mathlib.Core.Bool.{◌&&◌, not}
use lib.Dec.{ltb}
use Rattle.iso_transfers.proofs.paced.Goals as goal

pub returns : goal.returns
returns c = λ j. ltb c.args.h.left 256 && c.is_gap.ensures j && not c.args.h.waits
