-- `iso_timers::later_talks` meets its contract: one after the other. Assumes nothing.
use Rattle.iso_timers.proofs.Advance.{both_later}
use Rattle.iso_timers.proofs.later_talks.Goals as goal

pub returns : goal.returns
returns c =
    let first = c.later_in in
    let other = c.later_in-2 in
    λ flags v. both_later c.args.us flags c.args.ts.now c.requires v first.new.t other.new.t first.ensures other.ensures
