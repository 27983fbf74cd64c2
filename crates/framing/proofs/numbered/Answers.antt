-- `framing::numbered` meets its contract: as it is defined. Assumes nothing.
use mathlib.Core.Path.{refl}
use Rattle.iso.specs.Iso.{number_after}
use Rattle.framing.proofs.numbered.Goals as goal

-- src/lib.rt:35:1
pub returns : goal.returns
unfolding number_after
returns c = refl
