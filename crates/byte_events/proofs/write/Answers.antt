-- `byte_events::write` meets its contract. A number, an n, and so many records. Assumes nothing.
use Prim.Native.Nat.{◌*◌}
use mathlib.Core.Option.{bind}
use mathlib.Core.Path.{refl}
use native.Mathlib.Nat.{mul-le-mul}
use native.Mathlib.Omega.{arith}
use Rattle.event_parts.proofs.Parts.{at_most_few, stand, short}
use Rattle.recording_sizes.proofs.Laws.{record_fits}
use Rattle.events.specs.Events.{◌>>=◌, done, number, at_most64, arguments, arguments_of}
use Rattle.events.specs.Values.{values_after, values, channel_then, in_order, pieces}
use Rattle.reader.specs.Cursor.{ends, behind}
use Rattle.reader.proofs.Reading.{read_good, read_bad, then_good, then_bad, then_gave, then_gave_bad}
use Rattle.byte_events.proofs.write.Goals as goal

pub returns-in_err-channel : goal.returns-in_err-channel
unfolding behind ◌>>=◌ bind done arguments arguments_of values_after values channel_then in_order pieces
returns-in_err-channel c =
    let no = read_bad number _ c.in_err-channel.ensures in
    rw c.from_residual.ensures (record { is = rw (no); says = rw (no); there = tt }, refl)

pub returns-in_err-n : goal.returns-in_err-n
unfolding behind ◌>>=◌ bind done arguments arguments_of values_after values channel_then in_order pieces
returns-in_err-n c =
    let to_channel = read_good number _ c.in_ok-channel.ensures in
    let no = then_gave_bad at_most64 to_channel c.in_err-n.ensures in
    rw c.from_residual-in_err-n.ensures (record { is = rw (to_channel.is, no); says = rw (to_channel.is, no); there = tt }, refl)

pub returns-in_err-from : goal.returns-in_err-from
unfolding behind ◌>>=◌ bind done arguments arguments_of values_after values channel_then in_order pieces
returns-in_err-from c =
    let to_channel = read_good number _ c.in_ok-channel.ensures in
    let to_n = then_gave at_most64 to_channel c.in_ok-n.ensures in
    let size = c.record_on-size.result in
    let no = short _ _ _ (then_bad (ends (size * c.in_ok-n.n)) to_n c.in_err-from.ensures) in
    rw c.from_residual-in_err-from.ensures (record { is = rw (to_channel.is, to_n.is, ← c.record_on-size.ensures, no.no_bytes); says = rw (to_channel.is, to_n.is, ← c.record_on-size.ensures, no.no_raw); there = tt }, refl)

pub returns : goal.returns
unfolding behind ◌>>=◌ bind done arguments arguments_of values_after values channel_then in_order pieces
returns c =
    let to_channel = read_good number _ c.in_ok-channel.ensures in
    let to_n = then_gave at_most64 to_channel c.in_ok-n.ensures in
    let size = c.record_on-size.result in
    let to_from = then_good (ends (size * c.in_ok-n.n)) to_n c.in_ok-from.ensures in
    let at_from = stand _ _ _ to_from in
    (record { is = rw (to_channel.is, to_n.is, ← c.record_on-size.ensures, at_from.bytes_are); says = rw (to_channel.is, to_n.is, ← c.record_on-size.ensures, at_from.raw_is); there = (omega (arith, at_from.start, at_from.long), at_from.inside) }, to_from.on)

pub overflow_mul-size : goal.overflow_mul-size
overflow_mul-size c =
    let to_channel = read_good number _ c.in_ok-channel.ensures in
    let to_n = then_gave at_most64 to_channel c.in_ok-n.ensures in
    omega (arith, mul-le-mul (record_fits _ c.record_on-size.ensures) (at_most_few _ _ _ _ to_n.is))
