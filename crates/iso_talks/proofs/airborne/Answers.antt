-- `iso_talks::airborne` meets its contract. Assumes nothing.
use Rattle.iso_talks.proofs.Links.{airborne_at_law}
use Rattle.iso_talks.proofs.airborne.Goals as goal

pub returns : goal.returns
returns c = λ flags. airborne_at_law flags c.args.t.now
