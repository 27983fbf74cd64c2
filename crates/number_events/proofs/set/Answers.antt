-- `number_events::set` meets its contract. Three numbers. Assumes nothing.
use mathlib.Core.Option.{bind}
use mathlib.Core.Path.{refl}
use Rattle.events.specs.Events.{◌>>=◌, done, number, arguments, arguments_of}
use Rattle.events.specs.Values.{values_after, values, in_order, value}
use Rattle.reader.specs.Cursor.{behind}
use Rattle.reader.proofs.Reading.{read_good, read_bad, then_good, then_bad}
use Rattle.number_events.proofs.set.Goals as goal

pub returns-in_err-channel : goal.returns-in_err-channel
unfolding behind ◌>>=◌ bind done arguments arguments_of values_after values in_order value
returns-in_err-channel c =
    let no = read_bad number _ c.in_err-channel.ensures in
    rw c.from_residual.ensures (record { is = rw (no); says = rw (no); there = tt }, refl)

pub returns-in_err-parameter : goal.returns-in_err-parameter
unfolding behind ◌>>=◌ bind done arguments arguments_of values_after values in_order value
returns-in_err-parameter c =
    let to_channel = read_good number _ c.in_ok-channel.ensures in
    let no = then_bad number to_channel c.in_err-parameter.ensures in
    rw c.from_residual-in_err-parameter.ensures (record { is = rw (to_channel.is, no); says = rw (to_channel.is, no); there = tt }, refl)

pub returns-in_err-value : goal.returns-in_err-value
unfolding behind ◌>>=◌ bind done arguments arguments_of values_after values in_order value
returns-in_err-value c =
    let to_channel = read_good number _ c.in_ok-channel.ensures in
    let to_parameter = then_good number to_channel c.in_ok-parameter.ensures in
    let no = then_bad number to_parameter c.in_err-value.ensures in
    rw c.from_residual-in_err-value.ensures (record { is = rw (to_channel.is, to_parameter.is, no); says = rw (to_channel.is, to_parameter.is, no); there = tt }, refl)

pub returns : goal.returns
unfolding behind ◌>>=◌ bind done arguments arguments_of values_after values in_order value
returns c =
    let to_channel = read_good number _ c.in_ok-channel.ensures in
    let to_parameter = then_good number to_channel c.in_ok-parameter.ensures in
    let to_value = then_good number to_parameter c.in_ok-value.ensures in
    (record { is = rw (to_channel.is, to_parameter.is, to_value.is); says = rw (to_channel.is, to_parameter.is, to_value.is); there = tt }, to_value.on)
