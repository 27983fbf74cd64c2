-- `telegram_answers::plain` meets its contract. Assumes nothing.
use Rattle.telegram_types.specs.Face.{told, answering, padded}
use Rattle.telegram_answers.proofs.Answers.{carries_none}
use Rattle.telegram_answers.proofs.plain.Goals as goal

pub returns : goal.returns
unfolding told answering padded
returns c = rw (carries_none c.args.telegram)
