-- `event_reader::arguments` meets its contract. Each arm is the entry of the table for its number. Assumes nothing.
use mathlib.Core.Option.{bind}
use mathlib.Core.Path.{refl}
use Rattle.events.proofs.Reading.{unknown, unknown_values}
use Rattle.events.specs.Events.{◌>>=◌, done, number, arguments, arguments_of}
use Rattle.events.specs.Values.{in_order, value, values, values_after}
use Rattle.reader.specs.Cursor.{behind}
use Rattle.reader.proofs.Reading.{read_good, read_bad, then_good, then_bad}
use Rattle.event_reader.proofs.arguments.Goals as goal

pub returns-in_err-next_number-in-2 : goal.returns-in_err-next_number-in-2
unfolding behind ◌>>=◌ bind done arguments arguments_of values_after values in_order value
returns-in_err-next_number-in-2 c =
    let no = read_bad number _ c.in_err-next_number-in-2.ensures in
    rw (c.in-2.is, c.from_residual-in_err-next_number-in-2.ensures) (record { is = rw no; says = rw no; there = tt }, refl)

pub returns-in_ok-next_number-in-2 : goal.returns-in_ok-next_number-in-2
unfolding behind ◌>>=◌ bind done arguments arguments_of values_after values in_order value
returns-in_ok-next_number-in-2 c =
    let one = read_good number _ c.in_ok-next_number-in-2.ensures in
    rw c.in-2.is (record { is = rw one.is; says = rw one.is; there = tt }, one.on)

pub returns-in-3 : goal.returns-in-3
unfolding behind ◌>>=◌ bind done arguments arguments_of values_after values in_order value
returns-in-3 c =
    (record { is = rw c.in-3.is; says = rw c.in-3.is; there = tt }, refl)

pub returns-in_err-next_number-in-4 : goal.returns-in_err-next_number-in-4
unfolding behind ◌>>=◌ bind done arguments arguments_of values_after values in_order value
returns-in_err-next_number-in-4 c =
    let no = read_bad number _ c.in_err-next_number-in-4.ensures in
    rw (c.in-4.is, c.from_residual-in_err-next_number-in-4.ensures) (record { is = rw no; says = rw no; there = tt }, refl)

pub returns-in_ok-next_number-in-4 : goal.returns-in_ok-next_number-in-4
unfolding behind ◌>>=◌ bind done arguments arguments_of values_after values in_order value
returns-in_ok-next_number-in-4 c =
    let one = read_good number _ c.in_ok-next_number-in-4.ensures in
    rw c.in-4.is (record { is = rw one.is; says = rw one.is; there = tt }, one.on)

pub returns-in_err-next_number-in-7 : goal.returns-in_err-next_number-in-7
unfolding behind ◌>>=◌ bind done arguments arguments_of values_after values in_order value
returns-in_err-next_number-in-7 c =
    let no = read_bad number _ c.in_err-next_number-in-7.ensures in
    rw (c.in-7.is, c.from_residual-in_err-next_number-in-7.ensures) (record { is = rw no; says = rw no; there = tt }, refl)

pub returns-in_err-next_number-in-7-2 : goal.returns-in_err-next_number-in-7-2
unfolding behind ◌>>=◌ bind done arguments arguments_of values_after values in_order value
returns-in_err-next_number-in-7-2 c =
    let one = read_good number _ c.in_ok-next_number-in-7.ensures in
    let no = then_bad number one c.in_err-next_number-in-7-2.ensures in
    rw (c.in-7.is, c.from_residual-in_err-next_number-in-7-2.ensures) (record { is = rw (one.is, no); says = rw (one.is, no); there = tt }, refl)

pub returns-in_ok-next_number-in-7-2 : goal.returns-in_ok-next_number-in-7-2
unfolding behind ◌>>=◌ bind done arguments arguments_of values_after values in_order value
returns-in_ok-next_number-in-7-2 c =
    let one = read_good number _ c.in_ok-next_number-in-7.ensures in
    let two = then_good number one c.in_ok-next_number-in-7-2.ensures in
    rw c.in-7.is (record { is = rw (one.is, two.is); says = rw (one.is, two.is); there = tt }, two.on)

pub returns-in_err-next_number-in-9 : goal.returns-in_err-next_number-in-9
unfolding behind ◌>>=◌ bind done arguments arguments_of values_after values in_order value
returns-in_err-next_number-in-9 c =
    let no = read_bad number _ c.in_err-next_number-in-9.ensures in
    rw (c.in-9.is, c.from_residual-in_err-next_number-in-9.ensures) (record { is = rw no; says = rw no; there = tt }, refl)

pub returns-in_err-next_number-in-9-2 : goal.returns-in_err-next_number-in-9-2
unfolding behind ◌>>=◌ bind done arguments arguments_of values_after values in_order value
returns-in_err-next_number-in-9-2 c =
    let one = read_good number _ c.in_ok-next_number-in-9.ensures in
    let no = then_bad number one c.in_err-next_number-in-9-2.ensures in
    rw (c.in-9.is, c.from_residual-in_err-next_number-in-9-2.ensures) (record { is = rw (one.is, no); says = rw (one.is, no); there = tt }, refl)

pub returns-in_ok-next_number-in-9-2 : goal.returns-in_ok-next_number-in-9-2
unfolding behind ◌>>=◌ bind done arguments arguments_of values_after values in_order value
returns-in_ok-next_number-in-9-2 c =
    let one = read_good number _ c.in_ok-next_number-in-9.ensures in
    let two = then_good number one c.in_ok-next_number-in-9-2.ensures in
    rw c.in-9.is (record { is = rw (one.is, two.is); says = rw (one.is, two.is); there = tt }, two.on)

pub returns-in_err-next_number-in-12 : goal.returns-in_err-next_number-in-12
unfolding behind ◌>>=◌ bind done arguments arguments_of values_after values in_order value
returns-in_err-next_number-in-12 c =
    let no = read_bad number _ c.in_err-next_number-in-12.ensures in
    rw (c.in-12.is, c.from_residual-in_err-next_number-in-12.ensures) (record { is = rw no; says = rw no; there = tt }, refl)

pub returns-in_ok-next_number-in-12 : goal.returns-in_ok-next_number-in-12
unfolding behind ◌>>=◌ bind done arguments arguments_of values_after values in_order value
returns-in_ok-next_number-in-12 c =
    let one = read_good number _ c.in_ok-next_number-in-12.ensures in
    rw c.in-12.is (record { is = rw one.is; says = rw one.is; there = tt }, one.on)

pub returns-in_err-next_number-in-13 : goal.returns-in_err-next_number-in-13
unfolding behind ◌>>=◌ bind done arguments arguments_of values_after values in_order value
returns-in_err-next_number-in-13 c =
    let no = read_bad number _ c.in_err-next_number-in-13.ensures in
    rw (c.in-13.is, c.from_residual-in_err-next_number-in-13.ensures) (record { is = rw no; says = rw no; there = tt }, refl)

pub returns-in_ok-next_number-in-13 : goal.returns-in_ok-next_number-in-13
unfolding behind ◌>>=◌ bind done arguments arguments_of values_after values in_order value
returns-in_ok-next_number-in-13 c =
    let one = read_good number _ c.in_ok-next_number-in-13.ensures in
    rw c.in-13.is (record { is = rw one.is; says = rw one.is; there = tt }, one.on)

pub returns-in_err-next_number-in-14 : goal.returns-in_err-next_number-in-14
unfolding behind ◌>>=◌ bind done arguments arguments_of values_after values in_order value
returns-in_err-next_number-in-14 c =
    let no = read_bad number _ c.in_err-next_number-in-14.ensures in
    rw (c.in-14.is, c.from_residual-in_err-next_number-in-14.ensures) (record { is = rw no; says = rw no; there = tt }, refl)

pub returns-in_err-next_number-in-14-2 : goal.returns-in_err-next_number-in-14-2
unfolding behind ◌>>=◌ bind done arguments arguments_of values_after values in_order value
returns-in_err-next_number-in-14-2 c =
    let one = read_good number _ c.in_ok-next_number-in-14.ensures in
    let no = then_bad number one c.in_err-next_number-in-14-2.ensures in
    rw (c.in-14.is, c.from_residual-in_err-next_number-in-14-2.ensures) (record { is = rw (one.is, no); says = rw (one.is, no); there = tt }, refl)

pub returns-in_ok-next_number-in-14-2 : goal.returns-in_ok-next_number-in-14-2
unfolding behind ◌>>=◌ bind done arguments arguments_of values_after values in_order value
returns-in_ok-next_number-in-14-2 c =
    let one = read_good number _ c.in_ok-next_number-in-14.ensures in
    let two = then_good number one c.in_ok-next_number-in-14-2.ensures in
    rw c.in-14.is (record { is = rw (one.is, two.is); says = rw (one.is, two.is); there = tt }, two.on)

pub returns-in_err-next_number-in-15 : goal.returns-in_err-next_number-in-15
unfolding behind ◌>>=◌ bind done arguments arguments_of values_after values in_order value
returns-in_err-next_number-in-15 c =
    let no = read_bad number _ c.in_err-next_number-in-15.ensures in
    rw (c.in-15.is, c.from_residual-in_err-next_number-in-15.ensures) (record { is = rw no; says = rw no; there = tt }, refl)

pub returns-in_err-next_number-in-15-2 : goal.returns-in_err-next_number-in-15-2
unfolding behind ◌>>=◌ bind done arguments arguments_of values_after values in_order value
returns-in_err-next_number-in-15-2 c =
    let one = read_good number _ c.in_ok-next_number-in-15.ensures in
    let no = then_bad number one c.in_err-next_number-in-15-2.ensures in
    rw (c.in-15.is, c.from_residual-in_err-next_number-in-15-2.ensures) (record { is = rw (one.is, no); says = rw (one.is, no); there = tt }, refl)

pub returns-in_ok-next_number-in-15-2 : goal.returns-in_ok-next_number-in-15-2
unfolding behind ◌>>=◌ bind done arguments arguments_of values_after values in_order value
returns-in_ok-next_number-in-15-2 c =
    let one = read_good number _ c.in_ok-next_number-in-15.ensures in
    let two = then_good number one c.in_ok-next_number-in-15-2.ensures in
    rw c.in-15.is (record { is = rw (one.is, two.is); says = rw (one.is, two.is); there = tt }, two.on)

pub returns-in_default : goal.returns-in_default
unfolding behind
returns-in_default c = (record { is = unknown _ _ _ c.in_default.in_default-own.rest; says = unknown_values _ _ _ c.in_default.in_default-own.rest; there = tt }, refl)
