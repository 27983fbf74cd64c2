-- `recording::play_on` meets its contract. Assumes nothing.
use mathlib.Core.Path.{sym}
use Rattle.recording.proofs.Promise.{not_memory, no_room, nothing_more, bad_fits, too_long, goes_piece}
use Rattle.recording.proofs.play_on.Goals as goal

pub returns-then-not-valid : goal.returns-then-not-valid
returns-then-not-valid c =
    let a = c.args in
    not_memory a.mem.now a.recording.now a.at a.out.now (sym c.if-not-valid.ensures)

pub returns-then-out-lt-EVENT_ROOM : goal.returns-then-out-lt-EVENT_ROOM
returns-then-out-lt-EVENT_ROOM c =
    let a = c.args in
    no_room a.mem.now a.recording.now a.at a.out.now (sym c.if-not-valid.ensures) c.if-out-lt-EVENT_ROOM.true

pub returns-then-at-recording : goal.returns-then-at-recording
returns-then-at-recording c =
    let a = c.args in
    nothing_more a.mem.now a.recording.now a.at a.out.now (sym c.if-not-valid.ensures) c.if-out-lt-EVENT_ROOM.false c.if-at-recording.true

pub put_number-length-requires : goal.put_number-length-requires
put_number-length-requires c =
    let a = c.args in
    bad_fits a.mem.now a.recording.now a.at a.out.now (sym c.if-not-valid.ensures) c.if-out-lt-EVENT_ROOM.false c.if-at-recording.false c.if-recording-gt-LONGEST.true

pub returns-then-recording-gt-LONGEST : goal.returns-then-recording-gt-LONGEST
returns-then-recording-gt-LONGEST c =
    let a = c.args in
    too_long a.mem.now a.recording.now a.at a.out.now (sym c.if-not-valid.ensures) c.if-out-lt-EVENT_ROOM.false c.if-at-recording.false c.if-recording-gt-LONGEST.true c.put_number-length.ensures

pub returns : goal.returns
returns c =
    let a = c.args in
    goes_piece a.mem.now a.recording.now a.at a.out.now (sym c.if-not-valid.ensures) c.if-out-lt-EVENT_ROOM.false c.if-at-recording.false c.if-recording-gt-LONGEST.false c.play_events-end.ensures
