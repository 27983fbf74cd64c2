-- `timers::later` meets its contract. Assumes nothing.
use mathlib.Core.Path.{refl}
use Rattle.link.specs.Connection.{passing}
use Rattle.link_layout.proofs.Moves.{passing_held}
use Rattle.layout.proofs.Link.{link_there, turned_open}
use Rattle.timers.proofs.Region.{closed_stays, open_here, both_moved}
use Rattle.timers.proofs.later.Goals as goal

pub returns-then-r-eq0 : goal.returns-then-r-eq0
returns-then-r-eq0 c = closed_stays c.args.r.now c.requires.0 c.requires.1 c.args.us c.if-r-eq0.true

pub later-requires : goal.later-requires
later-requires c =
    link_there c.args.r.now (open_here c.args.r.now c.requires.0 c.requires.1 c.args.us c.if-r-eq0.false)

pub later_periodics-requires : goal.later_periodics-requires
later_periodics-requires c =
    let here = open_here c.args.r.now c.requires.0 c.requires.1 c.args.us c.if-r-eq0.false in
    let again = turned_open c.args.r.now here (passing c.args.us) (unfold passing in refl) (passing_held c.args.us) c.later.ensures in
    (again.long, again.valid, c.requires.2)

pub returns : goal.returns
returns c =
    let here = open_here c.args.r.now c.requires.0 c.requires.1 c.args.us c.if-r-eq0.false in
    both_moved c.args.r.now c.requires.0 c.requires.1 c.args.us here c.later.ensures c.requires.2
    c.later_periodics.ensures
