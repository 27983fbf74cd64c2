-- `message::is_wide` meets its contract. Assumes nothing.
use mathlib.Core.Path.{ap}
use Rattle.machine.specs.Message.{wide_of, tx_flags_of, bit}
use Rattle.message.proofs.is_wide.Goals as goal

pub returns : goal.returns
unfolding wide_of tx_flags_of bit
returns c = ap (bit 256) c.word_at.ensures.0
