-- `telegram_bytes::all` meets its contract. Assumes nothing.
use mathlib.Core.Path.{◌∙◌}
use Rattle.telegram_types.specs.Face.{wrote, done}
use Rattle.telegram_bytes.proofs.Writes.{written, unwritten}
use Rattle.telegram_bytes.proofs.all.Goals as goal

pub returns-then-fit : goal.returns-then-fit
unfolding wrote done
returns-then-fit c = rw c.put.ensures (written _ _ _ c.if-fit.true)

pub returns : goal.returns
returns c = c.refused.ensures _ ∙ unwritten _ _ _ c.if-fit.false
