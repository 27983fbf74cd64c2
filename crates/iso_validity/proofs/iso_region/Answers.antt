-- `iso_validity::iso_region` meets its contract: closed, open, neither. Assumes nothing.
use Rattle.iso_talks.proofs.Slots.{slot_empty, slot_taken, slot_neither}
use Rattle.codec.specs.Code.{via}
use Rattle.iso_layout.specs.Sizes.{iso_region_size}
use Rattle.iso_layout.specs.Region.{ready_part, iso_region}
use Prim.Native.Nat.{◌-◌}
use mathlib.Core.Path.{◌∙◌}
use Rattle.iso_validity.proofs.iso_region.Goals as goal

pub returns-then-k-eq0 : goal.returns-then-k-eq0
unfolding iso_region via
returns-then-k-eq0 c = c.all_zero.ensures ∙ slot_empty ready_part c.args.r.now (iso_region_size - 1) c.requires c.if-k-eq0.true

pub returns-then-k-eq1 : goal.returns-then-k-eq1
unfolding iso_region via
returns-then-k-eq1 c = c.opened.ensures ∙ slot_taken ready_part c.args.r.now c.if-k-eq1.true

pub returns : goal.returns
unfolding iso_region via
returns c = slot_neither ready_part c.args.r.now c.if-k-eq0.false c.if-k-eq1.false
