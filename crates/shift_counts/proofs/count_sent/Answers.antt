-- `shift_counts::count_sent` meets its contract. Assumes nothing.
use mathlib.Core.Path.{◌∙◌}
use Prim.Native.Nat.{◌+◌, ◌*◌}
use native.Mathlib.Omega.{arith}
use Rattle.memory.proofs.Memory.{valid_long}
use Rattle.recording_sizes.specs.Sizes.{longest}
use Rattle.shift_places.specs.Places.{of_channel, at_echoed, at_lost}
use Rattle.shift_counts.specs.Adds.{echo_adds}
use Rattle.shift_counts.proofs.Lines.{lent, no_channel, silent_added, echo_added}
use Rattle.shift_counts.proofs.count_sent.Goals as goal

pub returns-then-line-ge-LINES : goal.returns-then-line-ge-LINES
returns-then-line-ge-LINES c =
    no_channel c.args.numbers.now c.requires.1 c.args.mem.now c.requires.0 c.args.channel _ c.line_of-line.ensures echo_adds c.if-line-ge-LINES.true

pub slice_bounds-would_echo-end : goal.slice_bounds-would_echo-end
slice_bounds-would_echo-end c = omega (arith, valid_long _ c.requires.0)

pub would_echo-requires : goal.would_echo-requires
would_echo-requires c = lent c.args.mem.now c.requires.0 _ c.if-line-ge-LINES.false

pub returns-then-not-would_echo : goal.returns-then-not-would_echo
returns-then-not-would_echo c =
    silent_added c.args.numbers.now c.requires.1 c.args.mem.now c.requires.0 c.args.channel _ c.line_of-line.ensures c.if-line-ge-LINES.false _ c.would_echo.ensures c.if-not-would_echo.true

pub slice_bounds-held-end : goal.slice_bounds-held-end
slice_bounds-held-end c = omega (arith, valid_long _ c.requires.0)

pub held-held-requires : goal.held-held-requires
held-held-requires c = lent c.args.mem.now c.requires.0 _ c.if-line-ge-LINES.false

pub add-requires : goal.add-requires
add-requires c =
    (c.requires.1.long, c.if-line-ge-LINES.false, omega arith, omega (arith, c.requires.1.small (c.line_of-line.result * of_channel + at_echoed)))

pub add-requires-2 : goal.add-requires-2
add-requires-2 c =
    (c.add.ensures.long ∙ c.requires.1.long, c.if-line-ge-LINES.false, omega arith, omega (arith, c.add.ensures.most longest c.requires.1.small (c.line_of-line.result * of_channel + at_lost), c.lost-gone.ensures.1))

pub returns : goal.returns
returns c =
    echo_added c.args.numbers.now c.requires.1 c.args.mem.now c.requires.0 c.args.channel _ c.line_of-line.ensures c.if-line-ge-LINES.false _ c.held-held.ensures.0 _ _ c.would_echo.ensures c.if-not-would_echo.false _ c.lost-gone.ensures.0 _ c.add.ensures.is c.add-2.ensures.is

pub shape_of-numbers : goal.shape_of-numbers
shape_of-numbers c = c.add-2.ensures.long ∙ c.add.ensures.long
