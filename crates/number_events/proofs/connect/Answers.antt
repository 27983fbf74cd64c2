-- `number_events::connect` meets its contract. Four numbers. Assumes nothing.
use mathlib.Core.Option.{bind}
use mathlib.Core.Path.{refl}
use Rattle.events.specs.Events.{◌>>=◌, done, number, arguments, arguments_of}
use Rattle.events.specs.Values.{values_after, values, in_order, value}
use Rattle.reader.specs.Cursor.{behind}
use Rattle.reader.proofs.Reading.{read_good, read_bad, then_good, then_bad}
use Rattle.number_events.proofs.connect.Goals as goal

pub returns-in_err-line : goal.returns-in_err-line
unfolding behind ◌>>=◌ bind done arguments arguments_of values_after values in_order value
returns-in_err-line c =
    let no = read_bad number _ c.in_err-line.ensures in
    rw c.from_residual.ensures (record { is = rw (no); says = rw (no); there = tt }, refl)

pub returns-in_err-protocol : goal.returns-in_err-protocol
unfolding behind ◌>>=◌ bind done arguments arguments_of values_after values in_order value
returns-in_err-protocol c =
    let to_line = read_good number _ c.in_ok-line.ensures in
    let no = then_bad number to_line c.in_err-protocol.ensures in
    rw c.from_residual-in_err-protocol.ensures (record { is = rw (to_line.is, no); says = rw (to_line.is, no); there = tt }, refl)

pub returns-in_err-flags : goal.returns-in_err-flags
unfolding behind ◌>>=◌ bind done arguments arguments_of values_after values in_order value
returns-in_err-flags c =
    let to_line = read_good number _ c.in_ok-line.ensures in
    let to_protocol = then_good number to_line c.in_ok-protocol.ensures in
    let no = then_bad number to_protocol c.in_err-flags.ensures in
    rw c.from_residual-in_err-flags.ensures (record { is = rw (to_line.is, to_protocol.is, no); says = rw (to_line.is, to_protocol.is, no); there = tt }, refl)

pub returns-in_err-rate : goal.returns-in_err-rate
unfolding behind ◌>>=◌ bind done arguments arguments_of values_after values in_order value
returns-in_err-rate c =
    let to_line = read_good number _ c.in_ok-line.ensures in
    let to_protocol = then_good number to_line c.in_ok-protocol.ensures in
    let to_flags = then_good number to_protocol c.in_ok-flags.ensures in
    let no = then_bad number to_flags c.in_err-rate.ensures in
    rw c.from_residual-in_err-rate.ensures (record { is = rw (to_line.is, to_protocol.is, to_flags.is, no); says = rw (to_line.is, to_protocol.is, to_flags.is, no); there = tt }, refl)

pub returns : goal.returns
unfolding behind ◌>>=◌ bind done arguments arguments_of values_after values in_order value
returns c =
    let to_line = read_good number _ c.in_ok-line.ensures in
    let to_protocol = then_good number to_line c.in_ok-protocol.ensures in
    let to_flags = then_good number to_protocol c.in_ok-flags.ensures in
    let to_rate = then_good number to_flags c.in_ok-rate.ensures in
    (record { is = rw (to_line.is, to_protocol.is, to_flags.is, to_rate.is); says = rw (to_line.is, to_protocol.is, to_flags.is, to_rate.is); there = tt }, to_rate.on)
