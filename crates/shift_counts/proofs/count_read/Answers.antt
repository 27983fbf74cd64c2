-- `shift_counts::count_read` meets its contract. Assumes nothing.
use Prim.Native.Nat.{◌+◌, ◌*◌, min}
use native.Mathlib.Omega.{arith}
use Rattle.memory.proofs.Memory.{valid_long}
use Rattle.shift_places.specs.Places.{of_channel, at_read}
use Rattle.shift.specs.Numbers.{held_in}
use Rattle.shift_cells.specs.Sums.{cell}
use Rattle.shift_counts.proofs.Lines.{lent, no_channel, read_added}
use Rattle.shift_counts.proofs.count_read.Goals as goal

pub returns-then-line-ge-LINES : goal.returns-then-line-ge-LINES
returns-then-line-ge-LINES c =
    no_channel c.args.numbers.now c.requires.1 c.args.mem.now c.requires.0 c.args.channel _ c.line_of-line.ensures (λ x. cell at_read (min c.args.n (held_in x))) c.if-line-ge-LINES.true

pub slice_bounds-held-end : goal.slice_bounds-held-end
slice_bounds-held-end c = omega (arith, valid_long _ c.requires.0)

pub held-held-requires : goal.held-held-requires
held-held-requires c = lent c.args.mem.now c.requires.0 _ c.if-line-ge-LINES.false

pub add-requires : goal.add-requires
add-requires c =
    (c.requires.1.long, c.if-line-ge-LINES.false, omega arith, omega (arith, c.requires.1.small (c.line_of-line.result * of_channel + at_read), c.held-held.ensures.1, c.fewest-given.ensures))

pub returns : goal.returns
returns c =
    read_added c.args.numbers.now c.requires.1 c.args.mem.now c.requires.0 c.args.channel _ c.line_of-line.ensures c.if-line-ge-LINES.false _ c.held-held.ensures.0 _ c.args.n _ c.fewest-given.ensures c.add.ensures.is

pub shape_of-numbers : goal.shape_of-numbers
shape_of-numbers c = c.add.ensures.long
