-- `offering::telegram` meets its contract. Assumes nothing.
use Rattle.offering.proofs.Laws.{given_there, given_part, gave_none, gave_some}
use Rattle.offering.proofs.telegram.Goals as goal

pub returns-then-not-g : goal.returns-then-not-g
returns-then-not-g c = gave_none c.requires.0 c.offer-g.ensures c.if-not-g.true _

pub slice_bounds-put_received-end : goal.slice_bounds-put_received-end
slice_bounds-put_received-end c = given_there c.requires.0 c.offer-g.ensures

pub put_received-requires : goal.put_received-requires
put_received-requires c = (c.requires.1, given_part c.requires.0 c.offer-g.ensures)

pub returns : goal.returns
returns c = gave_some c.requires.0 c.offer-g.ensures c.if-not-g.false _ c.put_received.ensures
