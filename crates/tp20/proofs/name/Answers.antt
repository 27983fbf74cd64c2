-- `tp20::name` meets its contract. Assumes nothing.
use mathlib.Core.Path.{ap, ◌∙◌}
use Rattle.telegram_types.specs.Face.{naming}
use Rattle.telegram_answers.proofs.Answers.{unanswered, named}
use Rattle.tp20.proofs.name.Goals as goal

pub returns-in_default : goal.returns-in_default
returns-in_default c = c.nothing.ensures ∙ ap naming (unanswered c.in_default.field-0 _ c.in_default.ensures)

pub returns : goal.returns
returns c = named c.in-Ok.answer _ _ c.in-Ok.ensures c.numbers-numbers.ensures
