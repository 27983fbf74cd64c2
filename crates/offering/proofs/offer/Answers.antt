-- `offering::offer` meets its contract. Assumes nothing.
use Rattle.layout.proofs.Link.{link_there}
use Rattle.offering.proofs.Laws.{one_pending, asked}
use Rattle.offering.proofs.offer.Goals as goal

pub returns-then-i-lt-PLACES : goal.returns-then-i-lt-PLACES
returns-then-i-lt-PLACES c = one_pending c.requires.0 c.requires.1 c.if-i-lt-PLACES.true _

pub telegram-requires : goal.telegram-requires
telegram-requires c = (link_there c.args.r.now c.requires.0, c.requires.2)

pub returns : goal.returns
returns c = asked c.requires.0 c.requires.1 c.if-i-lt-PLACES.false c.telegram.ensures
