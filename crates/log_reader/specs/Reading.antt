-- What the readers of a line answer, in the words of the grammar. Assumes nothing.
use Rattle.std.specs.Prelude.{ℕ, ◌+◌, ◌*◌, ◌/◌, ◌%◌, ◌≤◌, ◌≡◌, Bool, List, [], ◌∷◌, length, drop, if◌then◌else◌, Option, Some, None, Result, Ok, Err}
use Rattle.std.proofs.Math.Option as maybe
use Rattle.text_reader.specs.Reading.{digit_of, near}
use Rattle.candump.specs.Line.{second, Logged, Said, malformed, unknown, tells, time_in, few_in, frame_in, line_in}
use Rattle.candump.specs.declared.Stop.{Stop}
use Rattle.candump.specs.declared.Stop.TheVariants as stops
use Rattle.log_reader.specs.declared.Time.{Time}
use Rattle.log_reader.specs.declared.Identifier.{Identifier}
use Rattle.log_reader.specs.declared.Frame.{Frame}
use Rattle.log_reader.specs.declared.Logged as lines
use Rattle.log_reader.specs.declared.LineError.{LineError}
use Rattle.log_reader.specs.declared.LineError.TheVariants.{Malformed, Unknown}

-- a time whose seconds are no more than the far number
unfoldable pub near_time : ℕ → ℕ
near_time t = near (t / second) * second + t % second

-- the bytes of two digits each
unfoldable pub data_of : List ℕ → List ℕ
data_of [] = []
data_of (x ∷ []) = []
data_of (x ∷ y ∷ l) = (digit_of x * 16 + digit_of y) ∷ data_of l

-- ---- the answers

unfoldable pub timed : List ℕ → Option Time → maybe.Option (ℕ × List ℕ)
timed line (Some t) = maybe.some (t.time, drop t.next line)
timed line None = maybe.none

abbrev pub TimeThere : List ℕ → Option Time → Type 0
TimeThere line (Some t) = t.next ≤ length line
TimeThere line None = Unit {0}

-- the time, with far seconds as one
unfoldable pub nearer : ℕ × List ℕ → ℕ × List ℕ
nearer p = (near_time p.0, p.1)

pub record TimeReads (line : List ℕ) (r : Option Time) : Type 0 where
  pub is : timed line r ≡ maybe.map nearer (time_in line)
  pub there : TimeThere line r

unfoldable pub identified : Option Identifier → maybe.Option (Bool × ℕ)
identified (Some i) = maybe.some (i.wide, i.id)
identified None = maybe.none

unfoldable pub data_good : Bool → List ℕ → maybe.Option (List ℕ)
data_good good l = if good then maybe.some (data_of l) else maybe.none

unfoldable pub carried : List ℕ → Option Frame → maybe.Option (Bool × ℕ × List ℕ)
carried line (Some f) = maybe.some (f.identifier.wide, f.identifier.id, data_of (drop f.digits line))
carried line None = maybe.none

-- the data are in the line, and they are digits
abbrev pub DataThere : List ℕ → ℕ → Type 0
DataThere line from = (from ≤ length line) × (few_in (drop from line) ≡ maybe.some (data_of (drop from line)))

abbrev pub FrameThere : List ℕ → Option Frame → Type 0
FrameThere line (Some f) = DataThere line f.digits
FrameThere line None = Unit {0}

pub record FrameReads (line : List ℕ) (at : ℕ) (r : Option Frame) : Type 0 where
  pub is : carried line r ≡ frame_in (drop at line)
  pub there : FrameThere line r

-- ---- a line

-- the frame that a line tells, with its data
unfoldable pub frame_told : List ℕ → lines.Logged → Logged
frame_told text r = record { time = r.time; line = r.line; wide = r.identifier.wide; id = r.identifier.id; bytes = data_of (drop r.digits text) }

unfoldable pub meaning : List ℕ → Result lines.Logged LineError → Said
meaning text (Err Malformed) = malformed
meaning text (Err Unknown) = unknown
meaning text (Ok r) = tells (frame_told text r)

unfoldable pub near_logged : Logged → Logged
near_logged g = record { time = near_time g.time; line = g.line; wide = g.wide; id = g.id; bytes = g.bytes }

unfoldable pub near_said : Said → Said
near_said malformed = malformed
near_said unknown = unknown
near_said (tells g) = tells (near_logged g)

abbrev pub There : List ℕ → Result lines.Logged LineError → Type 0
There text (Err e) = Unit {0}
There text (Ok r) = DataThere text r.digits

-- A LINE that was read is what the grammar says, with far seconds as one
pub record Reads (text : List ℕ) (r : Result lines.Logged LineError) : Type 0 where
  pub is : meaning text r ≡ near_said (line_in text)
  pub there : There text r

-- why a line stops an import that tells nothing
abbrev pub stop_of : LineError → Stop
stop_of Malformed = stops.Malformed
stop_of Unknown = stops.Unknown

abbrev pub StopsAs : LineError → Stop → Type 0
StopsAs why stop = stop ≡ stop_of why
