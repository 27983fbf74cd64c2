-- `filterbank::first_free` meets its contract. The invariant: the first i places are taken. Assumes nothing.
use native.Mathlib.Omega.{arith}
use Rattle.machine.proofs.Slots.{free_more, free_here, free_all}
use Rattle.layout.specs.Memory.{filters}
use Rattle.filterbank.proofs.Held.{ten_held, is_empty, is_taken}
use Rattle.filterbank.proofs.first_free.Goals as goal

pub returns-then-part-i-eq0 : goal.returns-then-part-i-eq0
returns-then-part-i-eq0 c =
    let l = c.loop-i in
    λ flags.
    let h = ten_held c.args.part.now c.requires flags in
    free_here ((filters flags).get c.args.part.now) l.i (omega arith) (l.invariant flags) (is_empty c.args.part.now c.requires l.i (omega arith) c.if-part-i-eq0.true flags)

pub loop-i-preserved : goal.loop-i-preserved
loop-i-preserved c =
    let l = c.loop-i in
    λ flags.
    let h = ten_held c.args.part.now c.requires flags in
    free_more ((filters flags).get c.args.part.now) l.i (omega arith) (l.invariant flags) (is_taken c.args.part.now c.requires l.i (omega arith) c.if-part-i-eq0.false flags)

pub returns : goal.returns
returns c =
    let l = c.loop-i in
    λ flags.
    let h = ten_held c.args.part.now c.requires flags in
    omega (arith, free_all ((filters flags).get c.args.part.now) l.i (omega arith) (l.invariant flags))
