-- `telegram_bytes::refused` meets its contract. Assumes nothing.
use mathlib.Core.Path.{refl}
use Rattle.telegram_types.specs.Face.{wrote, refusal}
use Rattle.telegram_bytes.proofs.refused.Goals as goal

pub returns : goal.returns
unfolding wrote refusal
returns c = λ buffer. refl
