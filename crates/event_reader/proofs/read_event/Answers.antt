-- `event_reader::read_event` meets its contract. The number of the event, and then its arguments. Assumes nothing.
use mathlib.Core.Option.{bind}
use Rattle.events.specs.Events.{◌>>=◌, number, read_event}
use Rattle.events.specs.Values.{read_values}
use Rattle.reader.specs.Cursor.{behind}
use Rattle.reader.proofs.Reading.{read_good, read_bad}
use Rattle.event_reader.proofs.read_event.Goals as goal

pub returns-in_err-kind : goal.returns-in_err-kind
unfolding ◌>>=◌ bind read_event read_values
returns-in_err-kind c =
    let no = rw c.new-r.ensures at (read_bad number c.new-r.result c.in_err-kind.ensures) in
    rw c.from_residual.ensures (record { is = rw no; says = rw no; there = tt })

pub returns-in_err-event : goal.returns-in_err-event
unfolding ◌>>=◌ bind read_event read_values behind
returns-in_err-event c =
    let to_kind = rw c.new-r.ensures at (read_good number c.new-r.result c.in_ok-kind.ensures) in
    let no = rw to_kind.on at c.in_err-event.ensures.0 in
    rw c.from_residual-in_err-event.ensures (record { is = rw to_kind.is no.is; says = rw to_kind.is no.says; there = tt })

pub returns : goal.returns
unfolding ◌>>=◌ bind read_event read_values behind
returns c =
    let to_kind = rw c.new-r.ensures at (read_good number c.new-r.result c.in_ok-kind.ensures) in
    let event = rw to_kind.on at c.in_ok-event.ensures.0 in
    record { is = rw to_kind.is event.is; says = rw to_kind.is event.says; there = event.there }
