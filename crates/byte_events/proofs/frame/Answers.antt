-- `byte_events::frame` meets its contract. Three numbers, an n, and so many bytes. Assumes nothing.
use Prim.Native.Nat.{◌-◌}
use mathlib.Core.Option.{bind}
use mathlib.Core.Path.{◌≡◌, refl}
use native.Mathlib.Nat.{one-mul}
use native.Mathlib.Omega.{arith}
use Rattle.event_parts.proofs.Parts.{stand, short}
use Rattle.events.specs.Events.{◌>>=◌, done, number, at_most64, arguments, arguments_of}
use Rattle.events.specs.Values.{values_after, values, in_order, value, pieces}
use Rattle.reader.specs.Cursor.{ends, behind}
use Rattle.reader.proofs.Reading.{read_good, read_bad, then_good, then_bad, then_gave, then_gave_bad}
use Rattle.byte_events.proofs.frame.Goals as goal

pub returns-in_err-line : goal.returns-in_err-line
unfolding behind ◌>>=◌ bind done arguments arguments_of values_after values in_order value pieces
returns-in_err-line c =
    let no = read_bad number _ c.in_err-line.ensures in
    rw c.from_residual.ensures (record { is = rw (no); says = rw (no); there = tt }, refl)

pub returns-in_err-wide : goal.returns-in_err-wide
unfolding behind ◌>>=◌ bind done arguments arguments_of values_after values in_order value pieces
returns-in_err-wide c =
    let to_line = read_good number _ c.in_ok-line.ensures in
    let no = then_bad number to_line c.in_err-wide.ensures in
    rw c.from_residual-in_err-wide.ensures (record { is = rw (to_line.is, no); says = rw (to_line.is, no); there = tt }, refl)

pub returns-in_err-id : goal.returns-in_err-id
unfolding behind ◌>>=◌ bind done arguments arguments_of values_after values in_order value pieces
returns-in_err-id c =
    let to_line = read_good number _ c.in_ok-line.ensures in
    let to_wide = then_good number to_line c.in_ok-wide.ensures in
    let no = then_bad number to_wide c.in_err-id.ensures in
    rw c.from_residual-in_err-id.ensures (record { is = rw (to_line.is, to_wide.is, no); says = rw (to_line.is, to_wide.is, no); there = tt }, refl)

pub returns-in_err-n : goal.returns-in_err-n
unfolding behind ◌>>=◌ bind done arguments arguments_of values_after values in_order value pieces
returns-in_err-n c =
    let to_line = read_good number _ c.in_ok-line.ensures in
    let to_wide = then_good number to_line c.in_ok-wide.ensures in
    let to_id = then_good number to_wide c.in_ok-id.ensures in
    let no = then_gave_bad at_most64 to_id c.in_err-n.ensures in
    rw c.from_residual-in_err-n.ensures (record { is = rw (to_line.is, to_wide.is, to_id.is, no); says = rw (to_line.is, to_wide.is, to_id.is, no); there = tt }, refl)

pub returns-in_err-from : goal.returns-in_err-from
unfolding behind ◌>>=◌ bind done arguments arguments_of values_after values in_order value pieces
returns-in_err-from c =
    let to_line = read_good number _ c.in_ok-line.ensures in
    let to_wide = then_good number to_line c.in_ok-wide.ensures in
    let to_id = then_good number to_wide c.in_ok-id.ensures in
    let to_n = then_gave at_most64 to_id c.in_ok-n.ensures in
    let no = short _ _ _ (then_bad (ends c.in_ok-n.n) to_n c.in_err-from.ensures) in
    rw c.from_residual-in_err-from.ensures (record { is = rw (to_line.is, to_wide.is, to_id.is, to_n.is, no.no_bytes); says = rw (to_line.is, to_wide.is, to_id.is, to_n.is, one-mul c.in_ok-n.n, no.no_raw); there = tt }, refl)

pub returns : goal.returns
unfolding behind ◌>>=◌ bind done arguments arguments_of values_after values in_order value pieces
returns c =
    let to_line = read_good number _ c.in_ok-line.ensures in
    let to_wide = then_good number to_line c.in_ok-wide.ensures in
    let to_id = then_good number to_wide c.in_ok-id.ensures in
    let to_n = then_gave at_most64 to_id c.in_ok-n.ensures in
    let to_from = then_good (ends c.in_ok-n.n) to_n c.in_ok-from.ensures in
    let at_from = stand _ _ _ to_from in
    let sized : c.in_ok-from.end - c.in_ok-from.from ≡ c.in_ok-n.n = omega (arith, at_from.start, at_from.long) in
    (record { is = rw (to_line.is, to_wide.is, to_id.is, to_n.is, at_from.bytes_are); says = rw (to_line.is, to_wide.is, to_id.is, to_n.is, one-mul c.in_ok-n.n, at_from.raw_is, sized); there = (omega (arith, at_from.start, at_from.long), at_from.inside) }, to_from.on)
