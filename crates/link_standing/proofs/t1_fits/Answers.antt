use Rattle.link_standing.proofs.Under.{never_ends, it_ends}
use Rattle.link_standing.proofs.t1_fits.Goals as goal

pub returns-then-t1-eq-NEVER : goal.returns-then-t1-eq-NEVER
returns-then-t1-eq-NEVER c = never_ends c.args.t1 c.args.us c.if-t1-eq-NEVER.true

pub returns : goal.returns
returns c = it_ends c.args.t1 c.args.us c.if-t1-eq-NEVER.false _ c.micros-most.ensures.0
