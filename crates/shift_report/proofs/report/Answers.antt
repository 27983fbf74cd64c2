-- `shift_report::report` meets its contract. Assumes nothing.
use mathlib.Core.Path.{ap, ◌∙◌}
use native.Mathlib.Omega.{arith}
use Prim.Native.Nat.{ℕ}
use Rattle.codec.specs.Plain.{zeros}
use Rattle.shift_report.proofs.Going.{zeros_on, other_memory, other_numbers, told}
use Rattle.shift_report.proofs.report.Goals as goal

pub returns-then-mem-ne-BOX : goal.returns-then-mem-ne-BOX
returns-then-mem-ne-BOX c = other_memory c.args.mem.now c.args.recording.now c.args.numbers.now c.if-mem-ne-BOX.true

pub returns-then-numbers-ne-REPORT : goal.returns-then-numbers-ne-REPORT
returns-then-numbers-ne-REPORT c = other_numbers c.args.mem.now c.args.recording.now c.args.numbers.now c.if-mem-ne-BOX.false c.if-numbers-ne-REPORT.true

pub count_all-requires : goal.count_all-requires
count_all-requires c =
    (zeros_on c.args.mem.now c.if-mem-ne-BOX.false _ c.zero.ensures, c.clear.ensures ∙ ap (λ (n : ℕ). zeros n) c.if-numbers-ne-REPORT.false)

pub count_each_held-requires : goal.count_each_held-requires
count_each_held-requires c = (c.count_all.ensures.ok, omega arith, c.count_all.ensures.room)

pub returns : goal.returns
returns c =
    told c.args.mem.now c.args.recording.now c.args.numbers.now c.if-mem-ne-BOX.false c.if-numbers-ne-REPORT.false _ _ _ c.count_all.ensures c.count_each_held.ensures
