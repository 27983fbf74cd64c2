-- `iso_validity::flight` meets its contract: empty, taken, neither. Assumes nothing.
use Rattle.iso_talks.proofs.Slots.{slot_empty, slot_taken, slot_neither}
use Rattle.iso_layout.specs.Sizes.{iso_flight_size}
use Rattle.iso_layout.specs.Region.{flight_code}
use Prim.Native.Nat.{◌-◌}
use mathlib.Core.Path.{◌∙◌}
use Rattle.iso_validity.proofs.flight.Goals as goal

pub returns-then-k-eq0 : goal.returns-then-k-eq0
returns-then-k-eq0 c = c.all_zero.ensures ∙ slot_empty (flight_code c.args.flags) c.args.f.now (iso_flight_size - 1) c.requires c.if-k-eq0.true

pub returns-then-k-eq1 : goal.returns-then-k-eq1
returns-then-k-eq1 c = c.flown.ensures ∙ slot_taken (flight_code c.args.flags) c.args.f.now c.if-k-eq1.true

pub returns : goal.returns
returns c = slot_neither (flight_code c.args.flags) c.args.f.now c.if-k-eq0.false c.if-k-eq1.false
