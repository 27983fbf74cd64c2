-- `log_input::part_read` meets its contract. Assumes nothing.
use mathlib.Core.Path.{sym, ◌∙◌}
use native.Mathlib.Omega.{arith}
use Prim.Native.Nat.{◌≤◌}
use lib.ListN.{length}
use lib.Seq.{length-take-le}
use Rattle.log_input.specs.Cut.{longest_log}
use Rattle.log_input.proofs.Cutting as cutting
use Rattle.log_input.proofs.part_read.Goals as goal

pub returns-then-log-le-LONGEST_LOG : goal.returns-then-log-le-LONGEST_LOG
returns-then-log-le-LONGEST_LOG c = cutting.all_read _ c.if-log-le-LONGEST_LOG.true

pub slice_bounds-whole_lines-end : goal.slice_bounds-whole_lines-end
slice_bounds-whole_lines-end c =
    let long : longest_log ≤ length c.args.log.now = omega (arith, c.if-log-le-LONGEST_LOG.false) in
    sym (length-take-le longest_log c.args.log.now long)

pub whole_lines-requires : goal.whole_lines-requires
whole_lines-requires c = cutting.first_few longest_log c.args.log.now

pub returns : goal.returns
returns c = c.whole_lines.ensures ∙ cutting.part_read_law _ c.if-log-le-LONGEST_LOG.false
