-- `tp20::read` meets its contract. Assumes nothing.
use Rattle.telegram.specs.Telegram.{read_any}
use Rattle.tp20.proofs.read.Goals as goal

pub returns-then-opening : goal.returns-then-opening
unfolding read_any
returns-then-opening c = rw c.if-opening.true c.opening.ensures

pub returns : goal.returns
unfolding read_any
returns c = rw c.if-opening.false c.channel.ensures
