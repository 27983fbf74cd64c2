-- `telegram_numbers::opening` meets its contract. Assumes nothing.
use mathlib.Core.Path.{sym, ap, ◌∙◌}
use Rattle.telegram.specs.Telegram.{opening}
use Rattle.telegram_types.specs.Face.{numbers_of, opening_said}
use Rattle.telegram_numbers.proofs.opening.Goals as goal

pub returns-in-SetUp : goal.returns-in-SetUp
unfolding numbers_of opening_said
returns-in-SetUp c = λ bytes. c.five.ensures ∙ sym (ap (λ o. numbers_of (opening c.args.identifier (opening_said o bytes))) c.in-SetUp.is)

pub returns-in-Positive : goal.returns-in-Positive
unfolding numbers_of opening_said
returns-in-Positive c = λ bytes. c.five-in-Positive.ensures ∙ sym (ap (λ o. numbers_of (opening c.args.identifier (opening_said o bytes))) c.in-Positive.is)

pub returns-in-Negative : goal.returns-in-Negative
unfolding numbers_of opening_said
returns-in-Negative c = λ bytes. c.three.ensures ∙ sym (ap (λ o. numbers_of (opening c.args.identifier (opening_said o bytes))) c.in-Negative.is)
