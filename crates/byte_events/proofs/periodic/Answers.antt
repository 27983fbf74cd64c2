-- `byte_events::periodic` meets its contract. A number, a record, a number. Assumes nothing.
use mathlib.Core.Option.{bind}
use mathlib.Core.Path.{refl}
use native.Mathlib.Omega.{arith}
use Rattle.event_parts.proofs.Parts.{stand, short}
use Rattle.events.specs.Events.{◌>>=◌, done, number, record_in, arguments, arguments_of}
use Rattle.events.specs.Values.{values_after, values, channel_then, in_order, value}
use Rattle.reader.specs.Cursor.{ends, behind}
use Rattle.reader.proofs.Reading.{read_good, read_bad, then_good, then_bad}
use Rattle.byte_events.proofs.periodic.Goals as goal

pub returns-in_err-channel : goal.returns-in_err-channel
unfolding behind ◌>>=◌ bind done record_in arguments arguments_of values_after values channel_then in_order value
returns-in_err-channel c =
    let no = read_bad number _ c.in_err-channel.ensures in
    rw c.from_residual.ensures (record { is = rw (no); says = rw (no); there = tt }, refl)

pub returns-in_err-from : goal.returns-in_err-from
unfolding behind ◌>>=◌ bind done record_in arguments arguments_of values_after values channel_then in_order value
returns-in_err-from c =
    let to_channel = read_good number _ c.in_ok-channel.ensures in
    let size = c.record_on-size.result in
    let no = short _ _ _ (then_bad (ends size) to_channel c.in_err-from.ensures) in
    rw c.from_residual-in_err-from.ensures (record { is = rw (to_channel.is, ← c.record_on-size.ensures, no.no_bytes); says = rw (to_channel.is, ← c.record_on-size.ensures, no.no_raw); there = tt }, refl)

pub returns-in_err-interval : goal.returns-in_err-interval
unfolding behind ◌>>=◌ bind done record_in arguments arguments_of values_after values channel_then in_order value
returns-in_err-interval c =
    let to_channel = read_good number _ c.in_ok-channel.ensures in
    let size = c.record_on-size.result in
    let to_from = then_good (ends size) to_channel c.in_ok-from.ensures in
    let at_from = stand _ _ _ to_from in
    let no = then_bad number to_from c.in_err-interval.ensures in
    rw c.from_residual-in_err-interval.ensures (record { is = rw (to_channel.is, ← c.record_on-size.ensures, at_from.bytes_are, no); says = rw (to_channel.is, ← c.record_on-size.ensures, at_from.raw_is, no); there = tt }, refl)

pub returns : goal.returns
unfolding behind ◌>>=◌ bind done record_in arguments arguments_of values_after values channel_then in_order value
returns c =
    let to_channel = read_good number _ c.in_ok-channel.ensures in
    let size = c.record_on-size.result in
    let to_from = then_good (ends size) to_channel c.in_ok-from.ensures in
    let at_from = stand _ _ _ to_from in
    let to_interval = then_good number to_from c.in_ok-interval.ensures in
    (record { is = rw (to_channel.is, ← c.record_on-size.ensures, at_from.bytes_are, to_interval.is); says = rw (to_channel.is, ← c.record_on-size.ensures, at_from.raw_is, to_interval.is); there = (omega (arith, at_from.start, at_from.long), at_from.inside) }, to_interval.on)
