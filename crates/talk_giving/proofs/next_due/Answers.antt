-- `talk_giving::next_due` meets its contract: as it is defined. Assumes nothing.
use mathlib.Core.Path.{refl}
use Rattle.talk_giving.specs.Giving.{next_due}
use Rattle.talk_giving.proofs.next_due.Goals as goal

-- src/lib.rt:77:1
pub returns : goal.returns
unfolding next_due
returns c = refl
