-- `iso_choosing::transmits` meets its contract: by the kinds of the two transfers. Assumes nothing.
use Rattle.iso_choosing.proofs.Choosing.{some_transmits}
use Rattle.iso_choosing.proofs.transmits.Goals as goal

pub returns : goal.returns
returns c = some_transmits c.args.r.now c.requires
