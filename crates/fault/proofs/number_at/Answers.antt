-- `fault::number_at` meets its contract. Assumes nothing.
use mathlib.Core.Path.{sym, ap, ◌∙◌}
use Rattle.fault.specs.Fault.{told}
use Rattle.fault.proofs.number_at.Goals as goal

pub returns-in_default : goal.returns-in_default
unfolding told
returns-in_default c = ap told (sym c.in_default.is ∙ c.read_number.ensures)

pub returns : goal.returns
unfolding told
returns c = ap told (sym c.in-Some.is ∙ c.read_number.ensures)
