-- `opening_writer::opening` meets its contract. Assumes nothing.
use mathlib.Core.Path.{sym, ◌∙◌}
use Rattle.telegram_types.specs.Face.{opening_said}
use Rattle.opening_writer.proofs.Identifier.{other_id, under_id}
use Rattle.opening_writer.proofs.opening.Goals as goal

pub returns-then-not-opening_id : goal.returns-then-not-opening_id
returns-then-not-opening_id c = c.refused.ensures _ ∙ other_id _ _ _ (sym c.opening_id.ensures ∙ c.if-not-opening_id.true)

pub returns-in-SetUp : goal.returns-in-SetUp
unfolding opening_said
returns-in-SetUp c = rw c.in-SetUp.is (c.set_up.ensures ∙ under_id _ _ _ (sym c.opening_id.ensures ∙ c.if-not-opening_id.false))

pub returns-in-Positive : goal.returns-in-Positive
unfolding opening_said
returns-in-Positive c = rw c.in-Positive.is (c.positive.ensures ∙ under_id _ _ _ (sym c.opening_id.ensures ∙ c.if-not-opening_id.false))

pub returns-in-Negative : goal.returns-in-Negative
unfolding opening_said
returns-in-Negative c = rw c.in-Negative.is (c.negative.ensures ∙ under_id _ _ _ (sym c.opening_id.ensures ∙ c.if-not-opening_id.false))
