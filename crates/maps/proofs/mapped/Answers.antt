-- `maps::mapped` meets its contract, which is its code. Assumes nothing.
use mathlib.Core.Path.{refl}
use Rattle.maps.specs.Chosen.{mapped_at}
use Rattle.maps.proofs.mapped.Goals as goal

pub returns : goal.returns
unfolding mapped_at
returns c = refl
