-- `iso_stored::indication` meets its contract. Assumes nothing.
use mathlib.Core.Path.{refl}
use Rattle.machine.specs.Message.{bit}
use Rattle.iso_layout.specs.Record.{indication}
use Rattle.iso_stored.proofs.indication.Goals as goal

pub returns : goal.returns
unfolding indication bit
returns c = refl
