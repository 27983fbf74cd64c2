-- `talk_starting::first_taken` meets its contract: as it is defined. Assumes nothing.
use mathlib.Core.Path.{refl}
use Rattle.talk_starting.specs.Starting.{first_taken}
use Rattle.talk_starting.proofs.first_taken.Goals as goal

-- src/lib.rt:44:1
pub returns : goal.returns
unfolding first_taken
returns c = refl
