-- The promise of an import into a lent buffer. Assumes nothing.
use Rattle.std.specs.Prelude.{ℕ, List, ◌++◌, ltb, length, drop, if◌then◌else◌, Option, Some, None, Result, Ok, Err}
use Rattle.candump.specs.Log.{latest, room, Import, imported}
use Rattle.candump.specs.Stops.{reason_of}
use Rattle.codes.specs.Code.{number_of}
use Rattle.codes.specs.declared.Refusal.{Refusal}
use Rattle.importing.specs.declared.Stopped.{Stopped}
use Rattle.importing.specs.declared.Imported.{Imported}

-- the code, how many bytes of the buffer are the recording, the line that stopped the import and why, and the buffer
pub record Answer : Type 0 where
  pub code : ℕ
  pub size : ℕ
  pub line : ℕ
  pub reason : ℕ
  pub buffer : List ℕ

abbrev pub answers : ℕ → ℕ → ℕ → ℕ → List ℕ → Answer
answers c n l r b = record { code = c; size = n; line = l; reason = r; buffer = b }

-- the number of the line that stopped an import, and of why it did, both 0 where none did
abbrev pub line_of : Option Stopped → ℕ
line_of None = 0
line_of (Some s) = s.line

abbrev pub why_of : Option Stopped → ℕ
why_of None = 0
why_of (Some s) = reason_of s.why

-- what code answers: an import, or its code alone
abbrev pub answered : Imported → List ℕ → Answer
answered i buffer = answers 0x00 i.length (line_of i.stopped) (why_of i.stopped) buffer

abbrev pub told : Result Imported Refusal → List ℕ → Answer
told (Ok i) buffer = answered i buffer
told (Err refusal) buffer = answers (number_of refusal) 0 0 0 buffer

-- the recording stands at the buffer's start, and the bytes behind it stay
unfoldable pub written : Import → List ℕ → Answer
written i buffer = answers 0x00 (length i.bytes) i.line i.reason (i.bytes ++ drop (length i.bytes) buffer)

-- THE PROMISE: 0x04 where the buffer is too short for the longest recording, then 0x0A for a start over the limit, and nothing changes; else the import
unfoldable pub imports : ℕ → List ℕ → List ℕ → Answer
imports start log buffer =
    if ltb (length buffer) room then answers 0x04 0 0 0 buffer
    else if ltb latest start then answers 0x0A 0 0 0 buffer
    else written (imported start log) buffer
