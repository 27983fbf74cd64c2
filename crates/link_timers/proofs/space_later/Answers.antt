-- `link_timers::space_later` meets its contract: what is left of T3, where it runs. Assumes nothing.
use Rattle.link_timers.proofs.Spaces.{runs, rests}
use Rattle.link_timers.proofs.space_later.Goals as goal

pub returns-then-s-eq0 : goal.returns-then-s-eq0
returns-then-s-eq0 c =
    runs c.args.us c.args.s.now c.requires c.if-s-eq0.true _ c.left_later.ensures

pub returns-else-s-eq0 : goal.returns-else-s-eq0
returns-else-s-eq0 c =
    rests c.args.us c.args.s.now c.requires c.if-s-eq0.false
