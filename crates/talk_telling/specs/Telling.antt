-- What a conversation tells of a frame, with the buffer that holds a message's payload. Assumes nothing.
use Rattle.std.specs.Prelude.{ℕ, ◌≤◌, ◌≡◌, List, [], length, take, drop, T}
use Rattle.machine.specs.Message.{Rec}
use Rattle.iso.specs.Limits.{most_payload}
use Rattle.iso.specs.Iso.{Talk, rx_start, arrived}
use Rattle.iso_layout.specs.Sizes.{talk_size}
use Rattle.iso_layout.specs.Region.{payload508}
use Rattle.talk_head.specs.Headed.{payload_on, payload_at}
use Rattle.talk_hearing.specs.declared.Means.{Means}
use Rattle.talk_hearing.specs.Meaning.{Room}
use Rattle.talk_telling.specs.declared.Told.{Told}
use Rattle.talk_telling.specs.declared.Told.TheVariants.{Silence, Start, Message}

-- the records, at the clock t, of a conversation c, with the buffer s
unfoldable pub told : Told → ℕ → Talk → List ℕ → List Rec
told Silence t c s = []
told Start t c s = rx_start t c
told (Message n) t c s = arrived t c (take n s)

-- no message is longer than a payload
abbrev pub Short : Told → Type 0
Short Silence = Unit {0}
Short Start = Unit {0}
Short (Message n) = n ≤ most_payload

-- a place whose payload can be read
pub record Readable (t : List ℕ) : Type 0 where
  pub long : length t ≡ talk_size
  pub payload : T (payload508.valid (drop payload_on t))

-- and room in it for what a frame means
pub record Heedful (m : Means) (t b : List ℕ) : Type 0 where
  pub reads : Readable t
  pub room : Room m (length (payload_at t)) b
