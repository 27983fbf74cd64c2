-- `talk_giving::next_taken` meets its contract: field by field. Assumes nothing.
use mathlib.Core.Path.{refl}
use Rattle.talk_giving.specs.Giving.{next_taken}
use Rattle.talk_giving.proofs.next_taken.Goals as goal

-- src/lib.rt:77:1
pub returns : goal.returns
unfolding next_taken
returns c = refl
