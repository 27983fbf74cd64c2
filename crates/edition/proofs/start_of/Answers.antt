-- `edition::start_of` meets its contract. Assumes nothing.
use mathlib.Core.Path.{sym, ◌∙◌}
use Rattle.edition.proofs.Marked.{new_start, old_start}
use Rattle.edition.proofs.start_of.Goals as goal

pub returns-then-is_marked : goal.returns-then-is_marked
returns-then-is_marked c = new_start c.args.recording.now (sym c.is_marked.ensures ∙ c.if-is_marked.true)

pub returns-else-is_marked : goal.returns-else-is_marked
returns-else-is_marked c = old_start c.args.recording.now (sym c.is_marked.ensures ∙ c.if-is_marked.false)
