-- `can::listens` meets its contract: it is the definition's own test. Assumes nothing.
use mathlib.Core.Path.{refl}
use Rattle.machine.specs.Message.{bit}
use Rattle.machine.specs.Channel.{listens}
use Rattle.can.proofs.listens.Goals as goal

pub returns : goal.returns
unfolding listens bit
returns c = refl
