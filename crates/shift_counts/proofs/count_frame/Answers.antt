-- `shift_counts::count_frame` meets its contract. Assumes nothing.
use mathlib.Core.Path.{◌∙◌}
use native.Mathlib.Omega.{arith}
use mathlib.Core.List.{[]}
use Rattle.memory.proofs.Memory.{valid_long}
use Rattle.shift_counts.proofs.Lines.{frame_beyond, frame_refused, frame_closed, frame_open, frame_short, frame_offered}
use Rattle.shift_counts.proofs.count_frame.Goals as goal

pub returns-then-index-ge-LINES : goal.returns-then-index-ge-LINES
returns-then-index-ge-LINES c rates =
    frame_beyond c.args.mem.now c.requires.0 c.args.numbers.now c.requires.1 rates _ c.args.wide c.args.id c.args.bytes.now c.if-index-ge-LINES.true

pub returns-then-code-ne-STATUS_NOERROR : goal.returns-then-code-ne-STATUS_NOERROR
returns-then-code-ne-STATUS_NOERROR c rates =
    frame_refused c.args.mem.now c.requires.0 c.args.numbers.now c.requires.1 rates _ c.args.wide c.args.id c.args.bytes.now c.if-index-ge-LINES.false _ (c.code_of-code.ensures.0 ∙ c.frame_code.ensures) c.if-code-ne-STATUS_NOERROR.true

pub returns-then-mem-a-eq0 : goal.returns-then-mem-a-eq0
returns-then-mem-a-eq0 c rates =
    frame_closed c.args.mem.now c.requires.0 c.args.numbers.now c.requires.1 rates _ c.args.wide c.args.id c.args.bytes.now c.if-index-ge-LINES.false _ (c.code_of-code.ensures.0 ∙ c.frame_code.ensures) c.if-code-ne-STATUS_NOERROR.false c.if-mem-a-eq0.true

pub count_offered-requires : goal.count_offered-requires
count_offered-requires c = (
  frame_open c.args.mem.now c.requires.0 c.args.numbers.now c.requires.1 [] _ c.args.wide c.args.id c.args.bytes.now c.if-index-ge-LINES.false _ (c.code_of-code.ensures.0 ∙ c.frame_code.ensures) c.if-code-ne-STATUS_NOERROR.false c.if-mem-a-eq0.false,
  c.if-index-ge-LINES.false,
  frame_short c.args.mem.now c.requires.0 c.args.numbers.now c.requires.1 [] c.args.line c.args.wide c.args.id c.args.bytes.now c.if-index-ge-LINES.false _ (c.code_of-code.ensures.0 ∙ c.frame_code.ensures) c.if-code-ne-STATUS_NOERROR.false,
  c.requires.1,
)

pub returns : goal.returns
returns c rates =
    frame_offered c.args.mem.now c.requires.0 c.args.numbers.now c.requires.1 rates _ c.args.wide c.args.id c.args.bytes.now c.if-index-ge-LINES.false _ (c.code_of-code.ensures.0 ∙ c.frame_code.ensures) c.if-code-ne-STATUS_NOERROR.false c.if-mem-a-eq0.false _ c.count_offered.ensures

pub bounds-mem-a : goal.bounds-mem-a
bounds-mem-a c = omega (arith, valid_long _ c.requires.0)

pub slice_bounds-count_offered-end : goal.slice_bounds-count_offered-end
slice_bounds-count_offered-end c = omega (arith, valid_long _ c.requires.0)
