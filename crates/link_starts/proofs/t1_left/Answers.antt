-- `link_starts::t1_left` meets its contract: nothing where T1 never ends. Assumes nothing.
use Rattle.link_starts.proofs.Laws.{never_ends, ends}
use Rattle.link_starts.proofs.t1_left.Goals as goal

pub returns-then-t1-eq-ENDLESS : goal.returns-then-t1-eq-ENDLESS
returns-then-t1-eq-ENDLESS c = never_ends c.args.t1 c.if-t1-eq-ENDLESS.true

pub returns : goal.returns
returns c = ends c.args.t1 c.micros.result c.if-t1-eq-ENDLESS.false c.micros.ensures.0
