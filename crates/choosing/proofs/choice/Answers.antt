-- `choosing::choice` meets its contract. Assumes nothing.
use Rattle.choosing.proofs.Next.{pending_shown, pending_long, telegram_shown, telegram_long, oldest_shown, oldest_long}
use Rattle.choosing.proofs.choice.Goals as goal

pub returns-then-i-lt-PLACES : goal.returns-then-i-lt-PLACES
returns-then-i-lt-PLACES c = let q = c.requires in (pending_shown q c.if-i-lt-PLACES.true, pending_long q c.if-i-lt-PLACES.true)

pub returns-then-there : goal.returns-then-there
returns-then-there c = let q = c.requires in (telegram_shown q c.if-i-lt-PLACES.false c.if-there.true, telegram_long q)

pub returns : goal.returns
returns c = let q = c.requires in (oldest_shown q c.if-i-lt-PLACES.false c.if-there.false, oldest_long q)
