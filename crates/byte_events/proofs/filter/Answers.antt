-- `byte_events::filter` meets its contract. Two numbers and two records, and on channels 5 to 8 a third. Assumes nothing.
use mathlib.Core.Option.{bind}
use mathlib.Core.Path.{refl, sym, ◌∙◌}
use native.Mathlib.Omega.{arith}
use Rattle.event_parts.proofs.Parts.{stand, short}
use Rattle.events.specs.Events.{◌>>=◌, done, number, record_in, start_in, arguments, arguments_of}
use Rattle.events.specs.Values.{values_after, values, channel_then, flow_on, in_order, value}
use Rattle.reader.specs.Cursor.{ends, behind}
use Rattle.reader.proofs.Reading.{read_good, read_bad, then_good, then_bad}
use Rattle.byte_events.proofs.filter.Goals as goal

pub returns-in_err-channel : goal.returns-in_err-channel
unfolding behind ◌>>=◌ bind done record_in start_in arguments arguments_of values_after values channel_then flow_on in_order value
returns-in_err-channel c =
    let no = read_bad number _ c.in_err-channel.ensures in
    rw c.from_residual.ensures (record { is = rw (no); says = rw (no); there = tt }, refl)

pub returns-in_err-kind : goal.returns-in_err-kind
unfolding behind ◌>>=◌ bind done record_in start_in arguments arguments_of values_after values channel_then flow_on in_order value
returns-in_err-kind c =
    let to_channel = read_good number _ c.in_ok-channel.ensures in
    let no = then_bad number to_channel c.in_err-kind.ensures in
    rw c.from_residual-in_err-kind.ensures (record { is = rw (to_channel.is, no); says = rw (to_channel.is, no); there = tt }, refl)

pub returns-in_err-mask : goal.returns-in_err-mask
unfolding behind ◌>>=◌ bind done record_in start_in arguments arguments_of values_after values channel_then flow_on in_order value
returns-in_err-mask c =
    let to_channel = read_good number _ c.in_ok-channel.ensures in
    let to_kind = then_good number to_channel c.in_ok-kind.ensures in
    let size = c.record_on-size.result in
    let no = short _ _ _ (then_bad (ends size) to_kind c.in_err-mask.ensures) in
    rw c.from_residual-in_err-mask.ensures (record { is = rw (to_channel.is, to_kind.is, ← c.record_on-size.ensures, no.no_bytes); says = rw (to_channel.is, to_kind.is, ← c.record_on-size.ensures, no.no_raw); there = tt }, refl)

pub returns-in_err-flow : goal.returns-in_err-flow
unfolding behind ◌>>=◌ bind done record_in start_in arguments arguments_of values_after values channel_then flow_on in_order value
returns-in_err-flow c =
    let to_channel = read_good number _ c.in_ok-channel.ensures in
    let to_kind = then_good number to_channel c.in_ok-kind.ensures in
    let size = c.record_on-size.result in
    let to_mask = then_good (ends size) to_kind c.in_ok-mask.ensures in
    let at_mask = stand _ _ _ to_mask in
    let no = short _ _ _ (then_bad (ends size) to_mask c.in_err-flow.ensures) in
    rw c.from_residual-in_err-flow.ensures (record { is = rw (to_channel.is, to_kind.is, ← c.record_on-size.ensures, at_mask.bytes_are, no.no_bytes); says = rw (to_channel.is, to_kind.is, ← c.record_on-size.ensures, at_mask.raw_is, no.no_raw); there = tt }, refl)

pub returns-then-not-on_iso : goal.returns-then-not-on_iso
unfolding behind ◌>>=◌ bind done record_in start_in arguments arguments_of values_after values channel_then flow_on in_order value
returns-then-not-on_iso c =
    let to_channel = read_good number _ c.in_ok-channel.ensures in
    let to_kind = then_good number to_channel c.in_ok-kind.ensures in
    let size = c.record_on-size.result in
    let to_mask = then_good (ends size) to_kind c.in_ok-mask.ensures in
    let at_mask = stand _ _ _ to_mask in
    let to_flow = then_good (ends size) to_mask c.in_ok-flow.ensures in
    let at_flow = stand _ _ _ to_flow in
    (record { is = rw (to_channel.is, to_kind.is, ← c.record_on-size.ensures, at_mask.bytes_are, at_flow.bytes_are, sym c.on_iso.ensures ∙ c.if-not-on_iso.true, at_flow.start, at_mask.stop); says = rw (to_channel.is, to_kind.is, ← c.record_on-size.ensures, at_mask.raw_is, at_flow.raw_is, sym c.on_iso.ensures ∙ c.if-not-on_iso.true, at_flow.start, at_mask.stop); there = ((omega (arith, at_mask.start, at_mask.long), at_mask.inside), (omega (arith, at_mask.stop, at_flow.start, at_flow.long), at_flow.inside)) }, to_flow.on)

pub returns-in_err-end : goal.returns-in_err-end
unfolding behind ◌>>=◌ bind done record_in start_in arguments arguments_of values_after values channel_then flow_on in_order value
returns-in_err-end c =
    let to_channel = read_good number _ c.in_ok-channel.ensures in
    let to_kind = then_good number to_channel c.in_ok-kind.ensures in
    let size = c.record_on-size.result in
    let to_mask = then_good (ends size) to_kind c.in_ok-mask.ensures in
    let at_mask = stand _ _ _ to_mask in
    let to_flow = then_good (ends size) to_mask c.in_ok-flow.ensures in
    let at_flow = stand _ _ _ to_flow in
    let no = short _ _ _ (then_bad (ends size) to_flow c.in_err-end.ensures) in
    rw c.from_residual-in_err-end.ensures (record { is = rw (to_channel.is, to_kind.is, ← c.record_on-size.ensures, at_mask.bytes_are, at_flow.bytes_are, sym c.on_iso.ensures ∙ c.if-not-on_iso.false, no.no_bytes); says = rw (to_channel.is, to_kind.is, ← c.record_on-size.ensures, at_mask.raw_is, at_flow.raw_is, sym c.on_iso.ensures ∙ c.if-not-on_iso.false, no.no_raw); there = tt }, refl)

pub returns : goal.returns
unfolding behind ◌>>=◌ bind done record_in start_in arguments arguments_of values_after values channel_then flow_on in_order value
returns c =
    let to_channel = read_good number _ c.in_ok-channel.ensures in
    let to_kind = then_good number to_channel c.in_ok-kind.ensures in
    let size = c.record_on-size.result in
    let to_mask = then_good (ends size) to_kind c.in_ok-mask.ensures in
    let at_mask = stand _ _ _ to_mask in
    let to_flow = then_good (ends size) to_mask c.in_ok-flow.ensures in
    let at_flow = stand _ _ _ to_flow in
    let to_end = then_good (ends size) to_flow c.in_ok-end.ensures in
    let at_end = stand _ _ _ to_end in
    (record { is = rw (to_channel.is, to_kind.is, ← c.record_on-size.ensures, at_mask.bytes_are, at_flow.bytes_are, sym c.on_iso.ensures ∙ c.if-not-on_iso.false, at_end.bytes_are, at_end.start, at_flow.stop, at_flow.start, at_mask.stop); says = rw (to_channel.is, to_kind.is, ← c.record_on-size.ensures, at_mask.raw_is, at_flow.raw_is, sym c.on_iso.ensures ∙ c.if-not-on_iso.false, at_end.raw_is, at_end.start, at_flow.stop, at_flow.start, at_mask.stop); there = ((omega (arith, at_mask.start, at_mask.long), at_mask.inside), (omega (arith, at_mask.stop, at_flow.start, at_flow.long), at_flow.inside), (omega (arith, at_flow.stop, at_end.start, at_end.long), at_end.inside)) }, to_end.on)
