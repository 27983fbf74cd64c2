-- `can::width_flag` meets its contract, case by case. Assumes nothing.
use Rattle.machine.specs.Message.{width_flag}
use Rattle.can.proofs.width_flag.Goals as goal

pub returns-then-wide : goal.returns-then-wide
unfolding width_flag
returns-then-wide c = rw c.if-wide.true

pub returns-else-wide : goal.returns-else-wide
unfolding width_flag
returns-else-wide c = rw c.if-wide.false
