-- `iso_timers::later` meets its contract: closed, at rest, or moved on. Assumes nothing.
use Rattle.iso_timers.proofs.Advance.{closed_stays, idle_stays, lain, moved_on}
use Rattle.iso_timers.proofs.later.Goals as goal

pub returns-then-r-eq0 : goal.returns-then-r-eq0
returns-then-r-eq0 c =
    closed_stays c.args.us c.args.r.now c.requires.0 c.requires.1 c.requires.2 c.if-r-eq0.true

pub returns-then-r : goal.returns-then-r
returns-then-r c =
    idle_stays c.args.us c.args.r.now c.requires.0 c.requires.1 c.requires.2 c.if-r-eq0.false c.if-r.true

pub disown-requires : goal.disown-requires
disown-requires c =
    let talks = c.later_talks in
    lain c.args.us c.args.r.now c.requires.0 c.requires.1 c.requires.2 c.if-r-eq0.false talks.new.ts talks.ensures

pub returns : goal.returns
returns c =
    let talks = c.later_talks in
    moved_on c.args.us c.args.r.now c.requires.0 c.requires.1 c.requires.2 c.if-r-eq0.false talks.new.ts talks.ensures c.disown.new.r c.disown.ensures
