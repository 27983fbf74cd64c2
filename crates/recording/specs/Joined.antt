-- Pieces one after the other: what is left to write from a place on, and what several pieces write together. Assumes nothing.
use Rattle.std.specs.Prelude.{ℕ, List, [], ◌∷◌, ◌++◌, leb, ltb, length, take, if◌then◌else◌}
use Rattle.recording_sizes.specs.Sizes.{longest}
use Rattle.whole.specs.Device.{Device}
use Rattle.edition.specs.Edition.{rates_of}
use Rattle.recording.specs.Replay.{bad_event, played, event_at, Left, pieced}

-- what a replay still writes, from a device and a place on
unfoldable pub rest : Device → List ℕ → ℕ → List ℕ
rest d recording at =
    if leb (length recording) at then []
    else if ltb longest (length recording) then bad_event
    else played (rates_of recording) (length recording) d recording (event_at recording at)

-- SEVERAL PIECES, each into a buffer of its own, on the memory and from the place that the one before it left: the bytes that stand at the start of
-- each buffer, the place and the memory
pub record Joined : Type 0 where
  pub bytes : List ℕ
  pub at : ℕ
  pub memory : List ℕ

-- what one piece left, in front of what those behind it give
abbrev pub before : Left → Joined → Joined
before l j = record { bytes = take l.size l.buffer ++ j.bytes; at = j.at; memory = j.memory }

unfoldable pub joined : List ℕ → List ℕ → ℕ → List (List ℕ) → Joined
joined memory recording at [] = record { bytes = []; at = at; memory = memory }
joined memory recording at (buffer ∷ buffers) =
    before (pieced memory recording at buffer) (joined (pieced memory recording at buffer).memory recording (pieced memory recording at buffer).at buffers)
