-- The export of a recording in pieces of whole lines, and the promise of the function that writes one into a lent buffer. Assumes nothing.
use Rattle.std.specs.Prelude.{ℕ, zero, suc, ◌+◌, ◌-◌, ◌*◌, ◌≡◌, ◌||◌, List, [], ◌++◌, leb, ltb, length, drop, if◌then◌else◌, Result, Ok, Err}
use Rattle.std.proofs.Math.Option.{Option, none, some}
use Rattle.recording_sizes.specs.Sizes.{longest}
use Rattle.machine.specs.Codes.{three_rates}
use Rattle.machine.specs.Step.{Event}
use Rattle.whole.specs.Device.{own_answer}
use Rattle.edition.specs.Edition.{mark_size, mark_at}
use Rattle.events.specs.Events.{read_event}
use Rattle.answers.specs.Put.{Put}
use Rattle.candump.specs.Line.{second}
use Rattle.candump.specs.Log.{latest, entry, lasts, lines_text}
use Rattle.codes.specs.Code.{number_of}
use Rattle.codes.specs.declared.Refusal.{Refusal}
use Rattle.exporting.specs.declared.Exported.{Exported}

-- the most bytes of a line with its end: ten digits of seconds, six of microseconds, eight of an identifier, two of each of eight bytes, and 11 marks
abbrev pub line_room : ℕ
line_room = 51

-- the code of an event that the box itself answers: a frame's and an advance's depend on no device
unfoldable pub code_of : Event → ℕ
code_of e = (own_answer three_rates e).code

-- A PIECE: the lines that it writes, the place in the recording at which it leaves off, and the time there
pub record Piece : Type 0 where
  pub bytes : List ℕ
  pub at : ℕ
  pub time : ℕ

abbrev pub piece : List ℕ → ℕ → ℕ → Piece
piece b i t = record { bytes = b; at = i; time = t }

abbrev pub after : List ℕ → Piece → Piece
after b p = piece (b ++ p.bytes) p.at p.time

-- the line of an event at a time, if it has one
unfoldable pub line_of : ℕ → Event → List ℕ
line_of t e = lines_text (entry t e (code_of e))

-- what is written for what was read, and what comes behind it in the room that it leaves free; a bad event ends the recording
unfoldable pub writes : ℕ → Option (Event × ℕ) → ℕ → ℕ → (ℕ → ℕ → ℕ → Piece) → Piece
writes end none t free more = piece [] end t
writes end (some r) t free more =
    after (line_of t r.0) (more r.1 (t + lasts r.0 (code_of r.0)) (free - length (line_of t r.0)))

-- event by event, while the recording has not ended and there is room for a line
unfoldable pub goes_on : ℕ → List ℕ → ℕ → ℕ → ℕ → Piece
goes_on zero recording at t free = piece [] at t
goes_on (suc turns) recording at t free =
    if leb (length recording) at || ltb free line_room then piece [] at t
    else writes (length recording) (read_event recording at) t free (goes_on turns recording)

-- where the events from a place on begin: behind the mark, if that is next
unfoldable pub event_at : List ℕ → ℕ → ℕ
event_at recording at = if mark_at recording at then mark_size else at

-- THE PIECE from a place and a time on, in so much room: nothing at the recording's end or past it, nor of one that is too long
unfoldable pub piece_of : List ℕ → ℕ → ℕ → ℕ → Piece
piece_of recording at t free =
    if leb (length recording) at then piece [] at t
    else if ltb longest (length recording) then piece [] (length recording) t
    else goes_on (length recording) recording (event_at recording at) t free

-- ---- into a lent buffer

-- the latest time at a place: an advance takes two bytes or more, and a second at most
unfoldable pub latest_at : ℕ → ℕ
latest_at at = latest + second * (if leb at longest then at else longest)

-- the code, the place, the time, how many bytes were written, and the buffer
pub record Left : Type 0 where
  pub code : ℕ
  pub at : ℕ
  pub time : ℕ
  pub size : ℕ
  pub buffer : List ℕ

abbrev pub leaves : ℕ → ℕ → ℕ → ℕ → List ℕ → Left
leaves c i t n b = record { code = c; at = i; time = t; size = n; buffer = b }

-- what code answers: a piece, or its code alone, and the place and the time stay
abbrev pub told : ℕ → ℕ → Result Exported Refusal → List ℕ → Left
told at time (Ok e) buffer = leaves 0x00 e.at e.time e.length buffer
told at time (Err refusal) buffer = leaves (number_of refusal) at time 0 buffer

-- what a piece writes stands at the buffer's start, and the bytes behind it stay
unfoldable pub written : Piece → List ℕ → Left
written p buffer = leaves 0x00 p.at p.time (length p.bytes) (p.bytes ++ drop (length p.bytes) buffer)

-- THE PROMISE: 0x04 where the buffer has no room for a line, then 0x0A for a time over the limit, and nothing changes; else the piece
unfoldable pub exports : ℕ → List ℕ → ℕ → List ℕ → Left
exports t recording at buffer =
    if ltb (length buffer) line_room then leaves 0x04 at t 0 buffer
    else if ltb (latest_at at) t then leaves 0x0A at t 0 buffer
    else written (piece_of recording at t (length buffer)) buffer

-- ---- one event

-- an event at a time: its line was written at a place, and the time behind it
pub record Exports (e : Event) (t : ℕ) (b : List ℕ) (place time next : ℕ) (later : List ℕ) : Type 0 where
  pub put : Put b place (line_of t e) next later
  pub passes : time ≡ t + lasts e (code_of e)

-- what was read at a place: an event, or the recording's end where it is bad
abbrev pub Reaches : ℕ → Option (Event × ℕ) → ℕ → List ℕ → ℕ → ℕ → ℕ → ℕ → List ℕ → Type 0
Reaches end none t b place next time place' later = (next ≡ end) × (time ≡ t) × (place' ≡ place) × (later ≡ b)
Reaches end (some r) t b place next time place' later = (next ≡ r.1) × Exports r.0 t b place time place' later
