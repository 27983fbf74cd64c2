-- `telegram_answers::refused` meets its contract. Assumes nothing.
use mathlib.Core.Path.{refl}
use Rattle.telegram_types.specs.Face.{told, answering, padded}
use Rattle.telegram_answers.proofs.refused.Goals as goal

pub returns : goal.returns
unfolding told answering padded
returns c = refl
