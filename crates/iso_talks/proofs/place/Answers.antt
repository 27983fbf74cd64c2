-- `iso_talks::place` meets its contract: empty, taken, neither. Assumes nothing.
use Rattle.iso_talks.proofs.Slots.{slot_empty, slot_taken, slot_neither}
use Rattle.iso_layout.specs.Sizes.{talk_size}
use Rattle.iso_layout.specs.Region.{talk_cell}
use Prim.Native.Nat.{◌-◌}
use mathlib.Core.Path.{◌∙◌}
use Rattle.iso_talks.proofs.place.Goals as goal

pub returns-then-k-eq0 : goal.returns-then-k-eq0
returns-then-k-eq0 c = c.all_zero.ensures ∙ slot_empty (talk_cell c.args.flags) c.args.t.now (talk_size - 1) c.requires c.if-k-eq0.true

pub returns-then-k-eq1 : goal.returns-then-k-eq1
returns-then-k-eq1 c = c.conversation.ensures ∙ slot_taken (talk_cell c.args.flags) c.args.t.now c.if-k-eq1.true

pub returns : goal.returns
returns c = slot_neither (talk_cell c.args.flags) c.args.t.now c.if-k-eq0.false c.if-k-eq1.false
