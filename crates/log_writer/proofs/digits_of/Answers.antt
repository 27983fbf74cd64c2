-- `log_writer::digits_of` meets its contract. The invariant: what is left has as many digits as were not counted. Assumes nothing.
use mathlib.Core.Path.{refl}
use native.Mathlib.Omega.{arith}
use Rattle.log_writer.proofs.Digits.{one_digit, more_digits, few_digits}
use Rattle.log_writer.proofs.digits_of.Goals as goal

pub loop-rest-init : goal.loop-rest-init
loop-rest-init c = (refl, omega arith)

pub overflow_add-n : goal.overflow_add-n
overflow_add-n c =
    omega (arith, c.loop-rest.invariant.0, few_digits 19 c.args.value (omega (arith, c.ranges.value)))

pub loop-rest-preserved : goal.loop-rest-preserved
loop-rest-preserved c = (omega (arith, c.loop-rest.invariant.0, more_digits c.loop-rest.rest c.loop-rest-test.true), omega arith)

pub returns : goal.returns
returns c = omega (arith, c.loop-rest.invariant.0, one_digit c.loop-rest.rest c.loop-rest-test.false)
