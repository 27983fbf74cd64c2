-- `tp20::write` meets its contract. Assumes nothing.
use borrow.Author.Tests.{lt-ltb, le-ltb}
use Rattle.telegram.specs.Telegram.{any_fits, any_bytes}
use Rattle.telegram_types.specs.Face.{wrote, refusal, said, writing}
use Rattle.tp20.proofs.write.Goals as goal

pub returns-then-buf-lt-ROOM : goal.returns-then-buf-lt-ROOM
unfolding wrote refusal writing
returns-then-buf-lt-ROOM c = rw (lt-ltb _ 8 c.if-buf-lt-ROOM.true)

pub returns-in-Opening : goal.returns-in-Opening
unfolding said writing any_fits any_bytes
returns-in-Opening c = rw (c.in-Opening.is, le-ltb _ 8 c.if-buf-lt-ROOM.false) c.opening.ensures

pub returns-in-Channel : goal.returns-in-Channel
unfolding said writing any_fits any_bytes
returns-in-Channel c = rw (c.in-Channel.is, le-ltb _ 8 c.if-buf-lt-ROOM.false) c.channel.ensures
