use mathlib.Core.Path.{refl}
use Rattle.iso.specs.Iso.{number_after}
use Rattle.talk_hearing.proofs.number_after.Goals as goal

pub returns : goal.returns
unfolding number_after
returns c = refl
