-- `fault::why` meets its contract. The invariant says which bytes were passed; the measure is what is left of the recording. Assumes nothing.
use Rattle.fault.proofs.Passing.{none_yet, cut_short, one_more, not_shortest, too_large}
use Rattle.fault.proofs.why.Goals as goal

pub loop-place-init : goal.loop-place-init
loop-place-init c = none_yet c.args.recording.now c.args.at

pub returns-then-byte-at : goal.returns-then-byte-at
returns-then-byte-at c = not_shortest c.loop-place.invariant c.loop-place-test.true c.if-byte-lt128.true c.if-byte-at.true

pub returns-then-byte-lt128 : goal.returns-then-byte-lt128
returns-then-byte-lt128 c = too_large c.loop-place.invariant c.loop-place-test.true c.if-byte-lt128.true c.if-byte-at.false

pub loop-place-preserved : goal.loop-place-preserved
loop-place-preserved c = one_more c.loop-place.invariant c.loop-place-test.true c.if-byte-lt128.false

pub returns : goal.returns
returns c = cut_short c.loop-place.invariant c.loop-place-test.false
