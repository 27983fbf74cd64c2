-- `verdict::kept_type` meets its contract. Assumes nothing.
use mathlib.Core.Path.{sym, ◌∙◌}
use Rattle.verdict.proofs.Kept.{kept_mapped, kept_other}
use Rattle.verdict.proofs.kept_type.Goals as goal

pub returns-then-mapped : goal.returns-then-mapped
returns-then-mapped c = kept_mapped _ _ (sym c.if-mapped.true ∙ c.mapped.ensures)

pub returns : goal.returns
returns c = kept_other _ _ (sym c.if-mapped.false ∙ c.mapped.ensures)
