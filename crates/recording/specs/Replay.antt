-- The scope's section "Recording": what the replay of a recording writes, whole and in pieces, and the promise of the function that plays a piece
-- on a lent memory into a lent buffer.
-- Assumes nothing.
use Rattle.std.specs.Prelude.{ℕ, zero, suc, ◌-◌, not, ◌||◌, List, [], ◌++◌, leb, ltb, length, drop, if◌then◌else◌}
use Rattle.std.proofs.Math.Option.{Option, none, some}
use Rattle.std.specs.Prelude.{Result, Ok, Err}
use Rattle.codes.specs.declared.Refusal.{Refusal}
use Rattle.codes.specs.Code.{number_of}
use Rattle.recording_sizes.specs.Sizes.{longest, event_room, bad_number}
use Rattle.number.specs.Number.{bytes_of}
use Rattle.machine.specs.Step.{Event}
use Rattle.whole.specs.Device.{Device, power_on, step}
use Rattle.memory.specs.Memory.{image, load, valid}
use Rattle.edition.specs.Edition.{mark_size, rates_of, start_of, mark_at}
use Rattle.events.specs.Events.{read_event}
use Rattle.answers.specs.Output.{answer_bytes}
use Rattle.recording.specs.declared.Played.{Played}

-- a bad event writes the number 255
unfoldable pub bad_event : List ℕ
bad_event = bytes_of bad_number

-- what is written for what was read: the answer and what comes after it; where the event is bad, that it is
unfoldable pub replies : List ℕ → Option (Event × ℕ) → Device → (Device → ℕ → List ℕ) → List ℕ
replies rates none d more = bad_event
replies rates (some r) d more = answer_bytes r.0 (step rates d r.0).1 ++ more (step rates d r.0).0 r.1

-- the answers from a place on, event by event, to the end of the recording or a bad event. Each event has a byte or more, so that as many turns
-- as there are bytes are enough
unfoldable pub played : List ℕ → ℕ → Device → List ℕ → ℕ → List ℕ
played rates zero d recording at = []
played rates (suc turns) d recording at =
    if leb (length recording) at then [] else replies rates (read_event recording at) d (λ e next. played rates turns e recording next)

-- THE OUTPUT, from power-on, with the rates of the recording's edition, from its first event on: its mark writes no answer. A recording of more than
-- 32,768 bytes, the mark's among them, counts as a bad event
unfoldable pub output : List ℕ → List ℕ
output recording =
    if ltb longest (length recording) then bad_event
    else played (rates_of recording) (length recording) power_on recording (start_of recording)

-- ---- in pieces

-- A PIECE of a replay: the bytes that it writes, the place in the recording at which it leaves off, and the device as it leaves it
pub record Piece : Type 0 where
  pub bytes : List ℕ
  pub at : ℕ
  pub device : Device

abbrev pub piece : List ℕ → ℕ → Device → Piece
piece b i d = record { bytes = b; at = i; device = d }

-- bytes in front of what a piece writes
abbrev pub after : List ℕ → Piece → Piece
after b p = piece (b ++ p.bytes) p.at p.device

-- what is played for what was read: the event's answer, and what comes after it in the room that it leaves free; where the event is bad, that it
-- is, and the recording has ended
unfoldable pub plays : List ℕ → ℕ → Option (Event × ℕ) → Device → ℕ → (Device → ℕ → ℕ → Piece) → Piece
plays rates end none d free more = piece bad_event end d
plays rates end (some r) d free more =
    after (answer_bytes r.0 (step rates d r.0).1) (more (step rates d r.0).0 r.1 (free - length (answer_bytes r.0 (step rates d r.0).1)))

-- event by event, while the recording has not ended and there is room for what one event may write
unfoldable pub goes_on : List ℕ → ℕ → Device → List ℕ → ℕ → ℕ → Piece
goes_on rates zero d recording at free = piece [] at d
goes_on rates (suc turns) d recording at free =
    if leb (length recording) at || ltb free event_room then piece [] at d
    else plays rates (length recording) (read_event recording at) d free (λ e next left. goes_on rates turns e recording next left)

-- where the events from a place on begin: behind the mark, if that is next
unfoldable pub event_at : List ℕ → ℕ → ℕ
event_at recording at = if mark_at recording at then mark_size else at

-- THE PIECE from a device and a place on, in so much room: nothing at the recording's end or past it; a recording that is too long is a bad event
unfoldable pub piece_of : Device → List ℕ → ℕ → ℕ → Piece
piece_of d recording at free =
    if leb (length recording) at then piece [] at d
    else if ltb longest (length recording) then piece bad_event (length recording) d
    else goes_on (rates_of recording) (length recording) d recording (event_at recording at) free

-- ---- on a lent memory, into a lent buffer

-- the code, the place, the length of what was written, and the memory and the buffer as a piece leaves them
pub record Left : Type 0 where
  pub code : ℕ
  pub at : ℕ
  pub size : ℕ
  pub memory : List ℕ
  pub buffer : List ℕ

abbrev pub leaves : ℕ → ℕ → ℕ → List ℕ → List ℕ → Left
leaves c i n m b = record { code = c; at = i; size = n; memory = m; buffer = b }

-- what an answer leaves: a piece's place and length, or the refusal's code, and the place stays and nothing is written
abbrev pub told : ℕ → Result Played Refusal → List ℕ → List ℕ → Left
told at (Ok played) m b = leaves 0x00 played.at played.length m b
told at (Err refusal) m b = leaves (number_of refusal) at 0 m b

-- what a piece writes stands at the buffer's start, and the bytes behind it stay
unfoldable pub written : Piece → List ℕ → Left
written p buffer = leaves 0x00 p.at (length p.bytes) (image p.device) (p.bytes ++ drop (length p.bytes) buffer)

-- THE PROMISE: 0x1A on bytes that are no device memory, then 0x04 where the buffer has no room for one event, and nothing changes; else the piece
unfoldable pub pieced : List ℕ → List ℕ → ℕ → List ℕ → Left
pieced memory recording at buffer =
    if not (valid memory) then leaves 0x1A at 0 memory buffer
    else if ltb (length buffer) event_room then leaves 0x04 at 0 memory buffer
    else written (piece_of (load memory) recording at (length buffer)) buffer
