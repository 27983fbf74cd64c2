-- `iso_records::extra_index` meets its contract, case by case. Assumes nothing.
use Rattle.machine.specs.Message.{bit}
use Rattle.iso_layout.specs.Record.{indication, extra_is}
use Rattle.iso_records.proofs.extra_index.Goals as goal

pub returns-then-rx : goal.returns-then-rx
unfolding extra_is indication bit
returns-then-rx c = rw c.if-rx.true

pub returns-else-rx : goal.returns-else-rx
unfolding extra_is indication bit
returns-else-rx c = rw c.if-rx.false
