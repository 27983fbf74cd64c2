-- `link_giving::set_up` meets its contract: a channel set-up is in flight, where it waited. Assumes nothing.
use Rattle.link_giving.proofs.Laws.{set_up_lent, no_set_up, set_up_given}
use Rattle.link_giving.proofs.set_up.Goals as goal

pub returns-then-part-ne-WAITS : goal.returns-then-part-ne-WAITS
returns-then-part-ne-WAITS c = no_set_up c.args.part.now c.requires.0 c.requires.1 c.if-part-ne-WAITS.true _ c.nothing.ensures

pub opening-r-requires : goal.opening-r-requires
opening-r-requires c = set_up_lent c.args.part.now c.requires.0 c.requires.1

pub returns : goal.returns
returns c = set_up_given c.args.part.now c.requires.0 c.requires.1 c.if-part-ne-WAITS.false _ c.opening-r.ensures
