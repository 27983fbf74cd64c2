-- `talk_giving::flow_waits` meets its contract: as it is defined. Assumes nothing.
use mathlib.Core.Path.{refl}
use Rattle.talk_giving.specs.Giving.{flow_waits}
use Rattle.talk_giving.proofs.flow_waits.Goals as goal

-- src/lib.rt:39:1
pub returns : goal.returns
unfolding flow_waits
returns c = refl
