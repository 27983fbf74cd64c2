use mathlib.Core.Path.{refl}
use Rattle.telegram_types.specs.Face.{naming, padded}
use Rattle.telegram_numbers.proofs.nothing.Goals as goal

pub returns : goal.returns
unfolding naming padded
returns c = refl
