-- `fault::find` meets its contract. The invariant says which events were read; the measure is what is left of the recording. Assumes nothing.
use native.Mathlib.Omega.{arith}
use Rattle.fault.proofs.Walking.{begun, too_long, ended, stopped, goes_on, further}
use Rattle.fault.proofs.find.Goals as goal

pub returns-then-recording-gt-LONGEST : goal.returns-then-recording-gt-LONGEST
returns-then-recording-gt-LONGEST c = too_long c.args.recording.now c.if-recording-gt-LONGEST.true

pub loop-at-init : goal.loop-at-init
loop-at-init c = (begun _ c.start_of-at.ensures, c.if-recording-gt-LONGEST.false)

pub overflow_add-n : goal.overflow_add-n
overflow_add-n c = omega (arith, c.loop-at.invariant.0.few, c.loop-at.invariant.0.inside, c.loop-at.invariant.1)

pub returns-in_default : goal.returns-in_default
returns-in_default c = stopped c.loop-at.invariant.0 c.loop-at-test.true _ c.read_event.ensures c.loop-at.invariant.1 c.in_default.is _ c.event-spot.ensures

pub loop-at-smaller : goal.loop-at-smaller
loop-at-smaller c = let f = further c.loop-at.invariant.0 c.loop-at-test.true _ c.read_event.ensures c.in-Some.is in omega (arith, f.0, f.1)

pub loop-at-preserved : goal.loop-at-preserved
loop-at-preserved c = (goes_on c.loop-at.invariant.0 c.loop-at-test.true _ c.read_event.ensures c.in-Some.is, c.loop-at.invariant.1)

pub returns : goal.returns
returns c = ended c.loop-at.invariant.0 c.loop-at.invariant.1 c.loop-at-test.false
