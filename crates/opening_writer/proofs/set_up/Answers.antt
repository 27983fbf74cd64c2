-- `opening_writer::set_up` meets its contract. Assumes nothing.
use mathlib.Core.Path.{◌∙◌}
use Rattle.telegram.specs.Telegram.{fields_fit, opening_bytes}
use Rattle.opening_writer.proofs.set_up.Goals as goal

pub returns : goal.returns
unfolding fields_fit opening_bytes
returns c =
    c.all.ensures ∙ rw (c.destination.ensures, c.id.ensures, c.application.ensures)
