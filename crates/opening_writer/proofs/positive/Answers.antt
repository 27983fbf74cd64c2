-- `opening_writer::positive` meets its contract. Assumes nothing.
use mathlib.Core.Path.{◌∙◌}
use Rattle.telegram.specs.Telegram.{fields_fit, opening_bytes}
use Rattle.opening_writer.proofs.positive.Goals as goal

pub returns : goal.returns
unfolding fields_fit opening_bytes
returns c =
    c.all.ensures ∙ rw (c.destination.ensures, c.id.ensures, c.id-2.ensures, c.application.ensures)
