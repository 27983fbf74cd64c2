-- `exporting::event_at` meets its contract. Assumes nothing.
use mathlib.Core.Path.{sym, ◌∙◌}
use Rattle.exporting.proofs.Promise.{behind_mark, no_mark}
use Rattle.exporting.proofs.event_at.Goals as goal

pub returns-then-is_mark : goal.returns-then-is_mark
returns-then-is_mark c = behind_mark _ _ (sym c.is_mark.ensures ∙ c.if-is_mark.true)

pub returns : goal.returns
returns c = no_mark _ _ (sym c.is_mark.ensures ∙ c.if-is_mark.false)
