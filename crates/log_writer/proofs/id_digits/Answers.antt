-- `log_writer::id_digits` meets its contract. Assumes nothing.
use mathlib.Core.Path.{sym, ap, ◌∙◌}
use Rattle.candump.specs.Line.{id_digits}
use Rattle.log_writer.proofs.Texts.{narrow_digits, wide_digits}
use Rattle.log_writer.proofs.id_digits.Goals as goal

pub returns-then-wide : goal.returns-then-wide
returns-then-wide c = sym (ap id_digits c.if-wide.true ∙ wide_digits)

pub returns : goal.returns
returns c = sym (ap id_digits c.if-wide.false ∙ narrow_digits)
