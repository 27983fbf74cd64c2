-- `channel_writer::acknowledge` meets its contract. Assumes nothing.
use mathlib.Core.Path.{◌∙◌}
use borrow.Author.Tests.{le-leb, lt-leb}
use Rattle.telegram.specs.Telegram.{fits, on_wire}
use Rattle.telegram_bytes.proofs.Writes.{unwritten}
use Rattle.channel_writer.proofs.acknowledge.Goals as goal

pub returns-then-sn-gt15 : goal.returns-then-sn-gt15
unfolding fits
returns-then-sn-gt15 c = c.refused.ensures _ ∙ unwritten _ _ _ (lt-leb _ _ c.if-sn-gt15.true)

pub returns : goal.returns
unfolding fits on_wire
returns c =
    c.one.ensures ∙ rw (c.bit_value.ensures.0, le-leb _ _ c.if-sn-gt15.false)
