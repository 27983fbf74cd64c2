-- `channel_writer::connection` meets its contract. Assumes nothing.
use mathlib.Core.Path.{◌∙◌}
use mathlib.Core.Bool.{and-true}
use Rattle.telegram.specs.Telegram.{fits, on_wire}
use Rattle.telegram_bytes.proofs.Writes.{byte}
use Rattle.channel_writer.proofs.connection.Goals as goal

pub returns : goal.returns
unfolding fits on_wire
returns c =
    c.all.ensures
    ∙ rw (c.block_size.ensures, c.bit_value.ensures.0, byte c.ranges.t1, byte c.ranges.t2, byte c.ranges.t3, byte c.ranges.t4, and-true)
