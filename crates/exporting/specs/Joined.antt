-- Pieces one after the other, and what is left of an export. Assumes nothing.
use Rattle.std.specs.Prelude.{ℕ, zero, suc, ◌+◌, List, [], ◌∷◌, ◌++◌, leb, ltb, length, take, if◌then◌else◌}
use Rattle.std.proofs.Math.Option.{Option, none, some}
use Rattle.recording_sizes.specs.Sizes.{longest}
use Rattle.machine.specs.Step.{Event}
use Rattle.events.specs.Events.{read_event}
use Rattle.candump.specs.Log.{lasts}
use Rattle.exporting.specs.Pieces.{code_of, line_of, event_at, Left, exports}

-- ---- what is left to write

-- the line of what was read, and what comes behind it
unfoldable pub text_of : Option (Event × ℕ) → ℕ → (ℕ → ℕ → List ℕ) → List ℕ
text_of none t more = []
text_of (some r) t more = line_of t r.0 ++ more r.1 (t + lasts r.0 (code_of r.0))

unfoldable pub text_from : ℕ → List ℕ → ℕ → ℕ → List ℕ
text_from zero recording at t = []
text_from (suc turns) recording at t =
    if leb (length recording) at then [] else text_of (read_event recording at) t (text_from turns recording)

-- WHAT IS LEFT of an export from a place and a time on
unfoldable pub rest : ℕ → List ℕ → ℕ → List ℕ
rest t recording at =
    if leb (length recording) at then []
    else if ltb longest (length recording) then []
    else text_from (length recording) recording (event_at recording at) t

-- ---- several pieces

-- SEVERAL PIECES, each into a buffer of its own, from the place and the time that the one before it left: the bytes that stand at the start of each
-- buffer, the place and the time
pub record Joined : Type 0 where
  pub bytes : List ℕ
  pub at : ℕ
  pub time : ℕ

abbrev pub before : Left → Joined → Joined
before l j = record { bytes = take l.size l.buffer ++ j.bytes; at = j.at; time = j.time }

unfoldable pub joined : ℕ → List ℕ → ℕ → List (List ℕ) → Joined
joined t recording at [] = record { bytes = []; at = at; time = t }
joined t recording at (buffer ∷ buffers) =
    before (exports t recording at buffer) (joined (exports t recording at buffer).time recording (exports t recording at buffer).at buffers)
