-- `talk_landing::awaits` meets its contract: field by field. Assumes nothing.
use mathlib.Core.Path.{refl}
use Rattle.talk_landing.specs.Landed.{awaiting}
use Rattle.talk_landing.proofs.awaits.Goals as goal

pub returns : goal.returns
unfolding awaiting
returns c = refl
