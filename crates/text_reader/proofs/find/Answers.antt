-- `text_reader::find` meets its contract. The invariant: the byte stands as far behind as it did at the start. Assumes nothing.
use native.Mathlib.Omega.{arith}
use Rattle.text_reader.proofs.Finding.{found_here, found_later, found_none, is_first, is_nowhere}
use Rattle.text_reader.proofs.find.Goals as goal

pub returns-then-s-i : goal.returns-then-s-i
returns-then-s-i c =
    is_first c.args.byte c.args.s.now c.args.from c.loop-i.i (omega (arith, c.loop-i.invariant, found_here c.args.byte c.args.s.now c.loop-i.i c.loop-i-test.true c.if-s-i.true)) c.loop-i-test.true

pub loop-i-preserved : goal.loop-i-preserved
loop-i-preserved c = omega (arith, c.loop-i.invariant, found_later c.args.byte c.args.s.now c.loop-i.i c.loop-i-test.true c.if-s-i.false)

pub returns : goal.returns
returns c =
    is_nowhere c.args.byte c.args.s.now c.args.from (omega (arith, c.loop-i.invariant, found_none c.args.byte c.args.s.now c.loop-i.i c.loop-i-test.false))
