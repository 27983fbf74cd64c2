-- `shift_report::count_events` meets its contract. The invariant: with what is still to come, the numbers make those of the recording. Assumes nothing.
use mathlib.Core.Path.{refl}
use native.Mathlib.Omega.{arith}
use Rattle.shift_report.proofs.Going.{in_range, all_counted, goes_on, moves_on}
use Rattle.shift_report.proofs.count_events.Goals as goal

pub loop-at-init : goal.loop-at-init
loop-at-init c = (c.requires.0, refl, refl, refl)

pub count_at-at-requires : goal.count_at-at-requires
count_at-at-requires c = let l = c.loop-at in (l.invariant.0.ok, in_range l.invariant.0, omega (arith, c.requires.2, l.invariant.3))

pub loop-at-smaller : goal.loop-at-smaller
loop-at-smaller c = moves_on c.loop-at.invariant.0 c.loop-at-test.true _ _ _ c.count_at-at.ensures

pub loop-at-preserved : goal.loop-at-preserved
loop-at-preserved c = (goes_on c.loop-at.invariant.0 c.loop-at-test.true _ _ _ c.count_at-at.ensures (omega arith), omega arith, omega arith, omega arith)

pub returns : goal.returns
returns c = all_counted c.loop-at.invariant.0 (omega (arith, c.loop-at-test.false))

pub shape_of-mem : goal.shape_of-mem
shape_of-mem c = c.loop-at.invariant.1

pub shape_of-numbers : goal.shape_of-numbers
shape_of-numbers c = c.loop-at.invariant.2

pub shape_of-out : goal.shape_of-out
shape_of-out c = c.loop-at.invariant.3
