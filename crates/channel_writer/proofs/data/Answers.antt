-- `channel_writer::data` meets its contract. Assumes nothing.
use mathlib.Core.Path.{◌∙◌}
use mathlib.Core.Bool.{and-false}
use borrow.Author.Tests.{le-leb, lt-leb}
use Rattle.telegram.specs.Telegram.{fits, on_wire}
use Rattle.telegram.proofs.Tests.{together}
use Rattle.telegram_bytes.proofs.Writes.{written, unwritten, are_bytes_law}
use Rattle.channel_writer.proofs.data.Goals as goal

pub returns-then-sn-gt15 : goal.returns-then-sn-gt15
unfolding fits
returns-then-sn-gt15 c = c.refused.ensures _ ∙ unwritten _ _ _ (rw (lt-leb _ _ c.if-sn-gt15.true))

pub returns-then-bytes-gt7 : goal.returns-then-bytes-gt7
unfolding fits
returns-then-bytes-gt7 c = c.refused-then-bytes-gt7.ensures _ ∙ unwritten _ _ _ (rw (lt-leb _ _ c.if-bytes-gt7.true, and-false))

pub returns : goal.returns
unfolding fits on_wire
returns c =
    c.both.ensures
    ∙ rw (c.bit_value.ensures.0, c.bit_value-2.ensures.0)
    (written _ _ _ (together (le-leb _ _ c.if-sn-gt15.false) (together (le-leb _ _ c.if-bytes-gt7.false) (are_bytes_law _ c.shared_slice_known-1.given))))
