-- `link_telegrams::nothing` meets its contract. Assumes nothing.
use mathlib.Core.Path.{refl}
use Rattle.link_telegrams.specs.Given.{nothing_given}
use Rattle.link_telegrams.proofs.nothing.Goals as goal

pub returns : goal.returns
unfolding nothing_given
returns c = refl
