-- `can::id_limit` meets its contract, case by case. Assumes nothing.
use Rattle.machine.specs.Message.{id_limit}
use Rattle.can.proofs.id_limit.Goals as goal

pub returns-then-wide : goal.returns-then-wide
unfolding id_limit
returns-then-wide c = rw c.if-wide.true

pub returns-else-wide : goal.returns-else-wide
unfolding id_limit
returns-else-wide c = rw c.if-wide.false
