-- `timers::later_places` meets its contract. The invariant: the first i places have moved, the others not. The measure is 10 less i. Assumes nothing.
use mathlib.Core.Path.{refl, sym, ◌∙◌}
use native.Mathlib.Omega.{arith}
use Rattle.machine.specs.Channel.{later_slot}
use Rattle.layout.proofs.Calls.{later_ok}
use Rattle.timers.proofs.Moves.{still_part, moved_none, moved_more, moved_all}
use borrow.Author.Rules.{rules}
use Rattle.timers.proofs.later_places.Goals as goal

pub loop-i-init : goal.loop-i-init
loop-i-init c = (omega arith, c.requires.0, moved_none c.args.us c.args.part.now, refl)

pub later_at-requires : goal.later_at-requires
later_at-requires c = (c.loop-i.invariant.1, search rules, c.requires.1)

pub loop-i-preserved : goal.loop-i-preserved
loop-i-preserved c =
    let us = c.args.us in
    let at = c.loop-i in
    let new = c.later_at in
    let part = still_part at.part at.invariant.1 (later_slot us) (λ k. later_ok k us) at.i new.new.part new.ensures in
    (omega arith, part, moved_more us c.args.part.now at.part c.requires.0 at.invariant.1 at.i at.invariant.2 (search rules) new.new.part new.ensures, part.long ∙ sym c.requires.0.long)

pub shape_of-part : goal.shape_of-part
shape_of-part c = c.loop-i.invariant.3

pub returns : goal.returns
returns c =
    let at = c.loop-i in
    moved_all c.args.us c.args.part.now at.part c.requires.0 at.invariant.1 at.i at.invariant.2 (omega arith)
