-- `shift_counts::count_held` meets its contract. Assumes nothing.
use Prim.Native.Nat.{◌+◌, ◌*◌}
use native.Mathlib.Omega.{arith}
use Rattle.memory.proofs.Memory.{valid_long}
use Rattle.shift_places.specs.Places.{of_channel}
use Rattle.shift_counts.proofs.Lines.{lent, no_channel, held_added}
use Rattle.shift_counts.specs.Adds.{held_at}
use Rattle.shift_counts.proofs.count_held.Goals as goal

pub returns-then-line-ge-LINES : goal.returns-then-line-ge-LINES
returns-then-line-ge-LINES c =
    no_channel c.args.numbers.now c.requires.2 c.args.mem.now c.requires.0 c.args.channel _ c.line_of-line.ensures (held_at c.args.which) c.if-line-ge-LINES.true

pub slice_bounds-held-end : goal.slice_bounds-held-end
slice_bounds-held-end c = omega (arith, valid_long _ c.requires.0)

pub held-held-requires : goal.held-held-requires
held-held-requires c = lent c.args.mem.now c.requires.0 _ c.if-line-ge-LINES.false

pub add-requires : goal.add-requires
add-requires c =
    (c.requires.2.long, c.if-line-ge-LINES.false, c.requires.1, omega (arith, c.requires.2.small (c.line_of-line.result * of_channel + c.args.which), c.held-held.ensures.1))

pub returns : goal.returns
returns c =
    held_added c.args.numbers.now c.requires.2 c.args.mem.now c.requires.0 c.args.channel _ c.line_of-line.ensures c.if-line-ge-LINES.false _ c.held-held.ensures.0 _ c.args.which c.add.ensures.is

pub shape_of-numbers : goal.shape_of-numbers
shape_of-numbers c = c.add.ensures.long
