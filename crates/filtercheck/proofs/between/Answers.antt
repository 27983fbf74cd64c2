-- `filtercheck::between` meets its contract, which is its code. Assumes nothing.
use mathlib.Core.Path.{refl}
use Rattle.codec.specs.Plain.{within}
use Rattle.filtercheck.proofs.between.Goals as goal

pub returns : goal.returns
unfolding within
returns c = refl
