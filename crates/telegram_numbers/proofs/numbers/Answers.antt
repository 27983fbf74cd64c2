-- `telegram_numbers::numbers` meets its contract. Assumes nothing.
use mathlib.Core.Path.{sym, ap, ◌∙◌}
use Rattle.telegram_types.specs.Face.{numbers_of, said}
use Rattle.telegram_numbers.proofs.numbers.Goals as goal

pub returns-in-Opening : goal.returns-in-Opening
unfolding said
returns-in-Opening c = λ bytes. c.opening.ensures bytes ∙ sym (ap (λ t. numbers_of (said t bytes)) c.in-Opening.is)

pub returns-in-Channel : goal.returns-in-Channel
unfolding said
returns-in-Channel c = λ bytes. c.channel.ensures bytes ∙ sym (ap (λ t. numbers_of (said t bytes)) c.in-Channel.is)
