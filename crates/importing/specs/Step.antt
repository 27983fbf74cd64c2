-- What one line does to a recording that stands at the start of a lent buffer. Assumes nothing.
use Rattle.std.specs.Prelude.{ℕ, ◌+◌, Bool, List, ◌++◌, ltb, length, take, drop, if◌then◌else◌, Result, Ok, Err}
use Rattle.candump.specs.Line.{Logged, Said, malformed, unknown, tells}
use Rattle.candump.specs.Log.{bytes_all, line_events, room, is_malformed, is_unknown, goes_back, does_not_fit}
use Rattle.candump.specs.Stops.{reason_of}
use Rattle.candump.specs.declared.Stop.{Stop}
use Rattle.importing.specs.declared.Step.{Step}

-- why the line stops the import, 0 where it doesn't; the place after the recording; the time of the last line; the buffer
pub record Left : Type 0 where
  pub reason : ℕ
  pub place : ℕ
  pub time : ℕ
  pub buffer : List ℕ

abbrev pub left : ℕ → ℕ → ℕ → List ℕ → Left
left r p t b = record { reason = r; place = p; time = t; buffer = b }

-- what code answers for a line behind one of a time, at a place: one that stops the import leaves both
abbrev pub stepped : ℕ → ℕ → Result Step Stop → List ℕ → Left
stepped time place (Ok s) buffer = left 0 s.place s.time buffer
stepped time place (Err why) buffer = left (reason_of why) place time buffer

abbrev pub logged_as : ℕ → ℕ → Bool → ℕ → List ℕ → Logged
logged_as t l w n b = record { time = t; line = l; wide = w; id = n; bytes = b }

-- bytes at a place of a buffer
unfoldable pub put_at : List ℕ → ℕ → List ℕ → List ℕ
put_at buffer place bytes = take place buffer ++ bytes ++ drop (place + length bytes) buffer

-- a line behind one of time t: its events stand behind the recording, or nothing of it does
unfoldable pub line_step : ℕ → ℕ → List ℕ → Said → Left
line_step t place buffer malformed = left is_malformed place t buffer
line_step t place buffer unknown = left is_unknown place t buffer
line_step t place buffer (tells g) =
    if ltb g.time t then left goes_back place t buffer
    else if ltb room (place + length (bytes_all (line_events t g))) then left does_not_fit place t buffer
    else left 0 (place + length (bytes_all (line_events t g))) g.time (put_at buffer place (bytes_all (line_events t g)))
