-- `taking::take_next` meets its contract. Assumes nothing.
use mathlib.Core.Path.{refl}
use Rattle.stores.proofs.Periodics.{lent}
use Rattle.offering.proofs.Laws.{left_open}
use Rattle.taking.proofs.Taking.{nothing_left, something_left, first_is, take_none, choosing, take_chosen}
use Rattle.taking.proofs.take_next.Goals as goal

pub first_pending-i-requires : goal.first_pending-i-requires
first_pending-i-requires c = lent c.args.r.now c.requires.0

pub offer-there-requires : goal.offer-there-requires
offer-there-requires c =
    (c.requires.0, first_is c.requires.0 c.first_pending-i.ensures, refl)

pub returns-then-i-there : goal.returns-then-i-there
returns-then-i-there c =
    λ rates t.
    take_none c.requires.0 (first_is c.requires.0 c.first_pending-i.ensures) c.offer-there.ensures rates t c.args.buffer.now c.requires.2 c.requires.1
    (nothing_left c.first_pending-i.result _ c.offer-there.result c.if-i-there.true)

pub choice-requires : goal.choice-requires
choice-requires c =
    choosing c.requires.0 (first_is c.requires.0 c.first_pending-i.ensures) c.offer-there.ensures (something_left c.first_pending-i.result _ c.offer-there.result c.if-i-there.false) refl

pub free-requires : goal.free-requires
free-requires c =
    (left_open c.requires.0 c.offer-there.ensures, something_left c.first_pending-i.result _ c.offer-there.result c.if-i-there.false)

pub returns : goal.returns
returns c =
    λ rates t.
    take_chosen c.requires.0 (first_is c.requires.0 c.first_pending-i.ensures) c.offer-there.ensures (something_left c.first_pending-i.result _ c.offer-there.result c.if-i-there.false) rates t c.args.buffer.now
    c.requires.2 c.requires.1 c.choice.ensures c.copy_record.ensures c.free.ensures c.launch.ensures
