-- `telegram_answers::only_if` meets its contract. Assumes nothing.
use mathlib.Core.Path.{sym, ap, ◌∙◌}
use Rattle.telegram.proofs.Tests.{let_through, stopped}
use Rattle.telegram_types.specs.Face.{answering}
use Rattle.telegram_answers.proofs.only_if.Goals as goal

pub returns-then-test : goal.returns-then-test
returns-then-test c = c.plain.ensures ∙ ap answering (sym (let_through _ _ c.if-test.true))

pub returns : goal.returns
returns c = c.refused.ensures ∙ ap answering (sym (stopped _ _ c.if-test.false))
