-- `number_events::read` meets its contract. A number, and an n. Assumes nothing.
use mathlib.Core.Option.{bind}
use mathlib.Core.Path.{refl}
use Rattle.event_parts.proofs.Parts.{at_most_few}
use Rattle.events.specs.Events.{◌>>=◌, done, number, at_most64, arguments, arguments_of}
use Rattle.events.specs.Values.{values_after, values, in_order, value, count}
use Rattle.reader.specs.Cursor.{behind}
use Rattle.reader.proofs.Reading.{read_good, read_bad, then_gave, then_gave_bad}
use Rattle.number_events.proofs.read.Goals as goal

pub returns-in_err-channel : goal.returns-in_err-channel
unfolding behind ◌>>=◌ bind done arguments arguments_of values_after values in_order value count
returns-in_err-channel c =
    let no = read_bad number _ c.in_err-channel.ensures in
    rw c.from_residual.ensures (record { is = rw (no); says = rw (no); there = tt }, refl)

pub returns-in_err-n : goal.returns-in_err-n
unfolding behind ◌>>=◌ bind done arguments arguments_of values_after values in_order value count
returns-in_err-n c =
    let to_channel = read_good number _ c.in_ok-channel.ensures in
    let no = then_gave_bad at_most64 to_channel c.in_err-n.ensures in
    rw c.from_residual-in_err-n.ensures (record { is = rw (to_channel.is, no); says = rw (to_channel.is, no); there = tt }, refl)

pub returns : goal.returns
unfolding behind ◌>>=◌ bind done arguments arguments_of values_after values in_order value count
returns c =
    let to_channel = read_good number _ c.in_ok-channel.ensures in
    let to_n = then_gave at_most64 to_channel c.in_ok-n.ensures in
    (record { is = rw (to_channel.is, to_n.is); says = rw (to_channel.is, to_n.is); there = at_most_few _ _ _ _ to_n.is }, to_n.on)
