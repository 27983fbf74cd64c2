-- `timers::later_periodics` meets its contract. Assumes nothing.
use mathlib.Core.Path.{sym, ◌∙◌}
use Rattle.stores.proofs.Periodics.{lent}
use Rattle.timers.proofs.Region.{not_closed, moved_on, stays_as_it_is}
use Rattle.timers.proofs.later_periodics.Goals as goal

pub returns-then-all_zero : goal.returns-then-all_zero
returns-then-all_zero c = stays_as_it_is c.args.r.now c.requires.0 c.requires.1 c.args.us (sym c.all_zero.ensures ∙ c.if-all_zero.true)

pub later_places-requires : goal.later_places-requires
later_places-requires c =
    (lent c.args.r.now (not_closed c.args.r.now c.requires.0 c.requires.1 c.args.us (sym c.all_zero.ensures ∙ c.if-all_zero.false)), c.requires.2)

pub returns : goal.returns
returns c =
    let open-now = not_closed c.args.r.now c.requires.0 c.requires.1 c.args.us (sym c.all_zero.ensures ∙ c.if-all_zero.false) in
    moved_on c.args.r.now c.requires.0 c.requires.1 c.args.us open-now c.later_places.new.part c.later_places.ensures
