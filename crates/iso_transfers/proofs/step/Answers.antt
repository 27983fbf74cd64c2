-- `iso_transfers::step` meets its contract. Assumes nothing.
use mathlib.Core.Path.{refl}
use Rattle.iso_layout.specs.Region.{step_of7}
use Rattle.iso_transfers.proofs.step.Goals as goal

pub returns : goal.returns
unfolding step_of7
returns c = refl
