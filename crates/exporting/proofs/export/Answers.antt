-- `exporting::export` meets its contract. Assumes nothing.
use Prim.Native.Nat.{ℕ, ◌+◌, ◌*◌, ◌≤◌}
use mathlib.Core.Path.{◌≡◌, ap, ◌∙◌}
use native.Mathlib.Omega.{arith}
use lib.ListN.{length}
use Rattle.candump.specs.Line.{second}
use Rattle.candump.specs.Log.{latest}
use Rattle.exporting.specs.Pieces.{event_at, latest_at, goes_on, written}
use Rattle.exporting.proofs.Promise.{event_inside, no_room, too_late, at_end_law, too_long, is_piece, begins_early}
use Rattle.exporting.proofs.export.Goals as goal

pub returns-then-out-lt-LINE_ROOM : goal.returns-then-out-lt-LINE_ROOM
returns-then-out-lt-LINE_ROOM c =
    let a = c.args in
    no_room a.time a.recording.now a.at a.out.now c.if-out-lt-LINE_ROOM.true

pub returns-then-time-latest_at : goal.returns-then-time-latest_at
returns-then-time-latest_at c =
    let a = c.args in
    too_late a.time a.recording.now a.at a.out.now c.if-out-lt-LINE_ROOM.false (omega (arith, c.latest_at.ensures, c.if-time-latest_at.true))

pub returns-then-at-recording : goal.returns-then-at-recording
returns-then-at-recording c =
    let a = c.args in
    let early : a.time ≤ latest_at a.at = omega (arith, c.latest_at.ensures, c.if-time-latest_at.false) in
    at_end_law a.time a.recording.now a.at a.out.now c.if-out-lt-LINE_ROOM.false early c.if-at-recording.true

pub returns-then-recording-gt-LONGEST : goal.returns-then-recording-gt-LONGEST
returns-then-recording-gt-LONGEST c =
    let a = c.args in
    let early : a.time ≤ latest_at a.at = omega (arith, c.latest_at.ensures, c.if-time-latest_at.false) in
    too_long a.time a.recording.now a.at a.out.now c.if-out-lt-LINE_ROOM.false early c.if-at-recording.false c.if-recording-gt-LONGEST.true

-- where the events begin, and what the tests that were passed say
pub export_events-end-requires : goal.export_events-end-requires
export_events-end-requires c =
    let a = c.args in
    let early : a.time ≤ latest_at a.at = omega (arith, c.latest_at.ensures, c.if-time-latest_at.false) in
    let begins : c.event_at.result ≡ event_at a.recording.now a.at = c.event_at.ensures in
    let i = event_inside a.recording.now a.at c.if-at-recording.false in
    let t : a.time ≤ latest + second * event_at a.recording.now a.at =
    begins_early a.time a.recording.now a.at a.out.now c.if-out-lt-LINE_ROOM.false early c.if-at-recording.false c.if-recording-gt-LONGEST.false in
    (omega (arith, begins, i.0), c.if-recording-gt-LONGEST.false, omega (arith, begins, t), omega (arith, c.if-out-lt-LINE_ROOM.false))

pub returns : goal.returns
returns c =
    let a = c.args in
    let early : a.time ≤ latest_at a.at = omega (arith, c.latest_at.ensures, c.if-time-latest_at.false) in
    let begins : c.event_at.result ≡ event_at a.recording.now a.at = c.event_at.ensures in
    c.export_events-end.ensures
    ∙ ap (λ (n : ℕ). written (goes_on (length a.recording.now) a.recording.now n a.time (length a.out.now)) a.out.now) begins
    ∙ is_piece a.time a.recording.now a.at a.out.now c.if-out-lt-LINE_ROOM.false early c.if-at-recording.false c.if-recording-gt-LONGEST.false
