-- `can::takes_width` meets its contract, which is its code. Assumes nothing.
use Rattle.machine.specs.Message.{takes, bit}
use mathlib.Core.Path.{refl}
use Rattle.can.proofs.takes_width.Goals as goal

pub returns : goal.returns
unfolding takes bit
returns c = refl
