-- `iso_transfers::is_gap` meets its contract. Assumes nothing.
use mathlib.Core.Path.{refl}
use Rattle.iso_layout.specs.Region.{is_gap}
use Rattle.iso_transfers.proofs.is_gap.Goals as goal

pub returns : goal.returns
unfolding is_gap
returns c = refl
