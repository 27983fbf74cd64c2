-- `iso_talks::transmits` meets its contract. Assumes nothing.
use Rattle.iso_talks.proofs.Links.{transmits_is}
use Rattle.iso_talks.proofs.transmits.Goals as goal

pub returns : goal.returns
returns c = λ flags. transmits_is flags c.args.t.now
