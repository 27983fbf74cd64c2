-- `shift_counts::count_offered` meets its contract. Assumes nothing.
use mathlib.Core.Path.{◌∙◌}
use mathlib.Core.List.{◌++◌}
use Prim.Native.Nat.{◌+◌, ◌*◌}
use native.Mathlib.Omega.{arith}
use Rattle.machine.specs.Message.{id_bytes}
use Rattle.recording_sizes.specs.Sizes.{longest}
use Rattle.shift_places.specs.Places.{of_channel, at_offered, at_lost}
use Rattle.shift_counts.proofs.Lines.{offered_added, fate_small}
use Rattle.shift_counts.proofs.count_offered.Goals as goal

pub add-requires : goal.add-requires
add-requires c =
    (c.requires.3.long, c.requires.1, omega arith, omega (arith, c.requires.3.small (c.args.line * of_channel + at_offered)))

pub add-requires-2 : goal.add-requires-2
add-requires-2 c =
    (c.add.ensures.long ∙ c.requires.3.long, c.requires.1, fate_small _ _ _ _ c.fate-fate.ensures, omega (arith, c.add.ensures.most longest c.requires.3.small (c.args.line * of_channel + c.fate-fate.result)))

pub add-requires-3 : goal.add-requires-3
add-requires-3 c = (
  c.add-2.ensures.long ∙ (c.add.ensures.long ∙ c.requires.3.long),
  c.requires.1,
  omega arith,
  omega (arith, c.add-2.ensures.most (longest + 1) (c.add.ensures.most longest c.requires.3.small) (c.args.line * of_channel + at_lost), c.lost-gone.ensures.1),
)

pub returns : goal.returns
returns c =
    offered_added c.args.r.now c.requires.0 c.args.wide (id_bytes c.args.id ++ c.args.bytes.now) c.args.numbers.now c.requires.3 c.args.line _ c.fate-fate.ensures _ c.held-held.ensures.0 _ c.lost-gone.ensures.0 _ _ _ c.add.ensures.is c.add-2.ensures.is c.add-3.ensures.is

pub shape_of-numbers : goal.shape_of-numbers
shape_of-numbers c = c.add-3.ensures.long ∙ (c.add-2.ensures.long ∙ c.add.ensures.long)
