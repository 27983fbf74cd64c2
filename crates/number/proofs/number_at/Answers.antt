-- `number::number_at` meets its contract. The invariant says which groups were passed. Assumes nothing.
use native.Mathlib.Omega.{arith}
use Rattle.number.proofs.Reading.{none_yet, room, cut_short, one_more, sixth, not_shortest, too_large, found}
use Rattle.number.proofs.number_at.Goals as goal

pub loop-place-init : goal.loop-place-init
loop-place-init c = none_yet c.args.bytes.now c.args.at

pub overflow_mul-value : goal.overflow_mul-value
overflow_mul-value c = omega (arith, room c.loop-place.invariant)

pub overflow_add-value : goal.overflow_add-value
overflow_add-value c = omega (arith, room c.loop-place.invariant)

pub returns-then-byte-unit : goal.returns-then-byte-unit
returns-then-byte-unit c = not_shortest c.loop-place.invariant c.loop-place-test.true c.if-byte-lt128.true c.if-byte-unit.true

pub returns-then-value-gt-LARGEST : goal.returns-then-value-gt-LARGEST
returns-then-value-gt-LARGEST c = too_large c.loop-place.invariant c.loop-place-test.true c.if-byte-lt128.true c.if-value-gt-LARGEST.true

pub returns-then-byte-lt128 : goal.returns-then-byte-lt128
returns-then-byte-lt128 c = found c.loop-place.invariant c.loop-place-test.true c.if-byte-lt128.true c.if-byte-unit.false c.if-value-gt-LARGEST.false

pub returns-then-unit-eq-FIFTH : goal.returns-then-unit-eq-FIFTH
returns-then-unit-eq-FIFTH c = sixth c.loop-place.invariant c.loop-place-test.true c.if-byte-lt128.false c.if-unit-eq-FIFTH.true

pub overflow_mul-unit : goal.overflow_mul-unit
overflow_mul-unit c = omega (arith, room c.loop-place.invariant)

pub loop-place-preserved : goal.loop-place-preserved
loop-place-preserved c = one_more c.loop-place.invariant c.loop-place-test.true c.if-byte-lt128.false c.if-unit-eq-FIFTH.false

pub returns : goal.returns
returns c = cut_short c.loop-place.invariant c.loop-place-test.false
