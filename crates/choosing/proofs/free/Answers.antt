-- `choosing::free` meets its contract. Assumes nothing.
use Rattle.stores.proofs.Periodics.{lent}
use Rattle.choosing.proofs.Freed.{oldest_lent, none_freed, periodic_freed, written_freed}
use Rattle.choosing.proofs.free.Goals as goal

pub calm-requires : goal.calm-requires
calm-requires c = (lent c.args.r.now c.requires.0, c.if-i-lt-PLACES.true)

pub returns-then-i-lt-PLACES : goal.returns-then-i-lt-PLACES
returns-then-i-lt-PLACES c = periodic_freed c.requires.0 c.args.there c.if-i-lt-PLACES.true c.calm.ensures

pub returns-then-there : goal.returns-then-there
returns-then-there c = none_freed c.requires.0 c.if-i-lt-PLACES.false c.if-there.true

pub drop_oldest-requires : goal.drop_oldest-requires
drop_oldest-requires c = oldest_lent c.requires.0 (c.requires.1 c.if-i-lt-PLACES.false c.if-there.false)

pub returns : goal.returns
returns c = written_freed c.requires.0 c.if-i-lt-PLACES.false c.if-there.false c.drop_oldest.ensures
