-- `start_time::read_decimals` meets its contract. Assumes nothing.
use Prim.Native.Nat.{ℕ, ◌*◌, ◌≤◌}
use mathlib.Core.Path.{sym, ap, ◌∙◌}
use mathlib.Core.List.{List}
use native.Mathlib.Nat.{mul-le-mul_right}
use native.Mathlib.Omega.{arith}
use lib.ListN.{length}
use Rattle.text_reader.proofs.Digits.{NearNumber, number_there}
use Rattle.std.specs.Prelude.{Some}
use Rattle.start_time.specs.Start.{unit_of}
use Rattle.start_time.proofs.Units.{unit_few, unit_most, no_unit, bad_decimals, good_decimals}
use Rattle.start_time.proofs.read_decimals.Goals as goal

pub returns-then-each-lt1 : goal.returns-then-each-lt1
returns-then-each-lt1 c = no_unit _ (omega (arith, c.unit-each.ensures))

-- ---- a unit that is there, and the number that was read
pub returns-in_err-v : goal.returns-in_err-v
returns-in_err-v c =
    let unit_there : 1 ≤ unit_of (length c.args.text.now) = omega (arith, c.unit-each.ensures, c.if-each-lt1.false) in
    c.from_residual.ensures ∙ bad_decimals _ unit_there c.in_err-v.ensures

pub overflow_mul-result : goal.overflow_mul-result
overflow_mul-result c =
    let unit_there : 1 ≤ unit_of (length c.args.text.now) = omega (arith, c.unit-each.ensures, c.if-each-lt1.false) in
    let unit_small : unit_of (length c.args.text.now) ≤ 100_000 = unit_most (length c.args.text.now) (unit_few (length c.args.text.now) unit_there) in
    let value_is : NearNumber 10 c.args.text.now c.in_ok-v.v = number_there 10 c.args.text.now c.in_ok-v.v c.in_ok-v.ensures in
    let a = mul-le-mul_right (unit_of (length c.args.text.now)) value_is.small in
    let e = ap (λ (u : ℕ). c.in_ok-v.v * u) c.unit-each.ensures in
    record { fits = omega (arith, a, e, unit_small) }

pub returns : goal.returns
returns c =
    let unit_there : 1 ≤ unit_of (length c.args.text.now) = omega (arith, c.unit-each.ensures, c.if-each-lt1.false) in
    let value_is : NearNumber 10 c.args.text.now c.in_ok-v.v = number_there 10 c.args.text.now c.in_ok-v.v c.in_ok-v.ensures in
    ap (λ (u : ℕ). Some (c.in_ok-v.v * u)) c.unit-each.ensures ∙ good_decimals c.args.text.now unit_there c.in_ok-v.v value_is
