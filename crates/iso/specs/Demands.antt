-- The words of demand 1, and of the scope's "What a proof has to close off", on one ISO 15765 channel: what a refusal leaves behind, which records
-- the channel holds, and what it is for a count to be the number of records moved. Which answers are refusals is said once for all channels.
-- Assumes nothing.
use Rattle.std.specs.Prelude.{ℕ, zero, suc, ◌*◌, ◌≡◌, Bool, true, List, [], ◌∷◌, ◌++◌, length, drop, eqb, leb, if◌then◌else◌}
use Rattle.machine.specs.Limits.{last_line}
use Rattle.machine.specs.Message.{Rec, clean}
use Rattle.machine.specs.Channel.{Answer}
use Rattle.machine.specs.Step.{Event, connect, call, frame, advance, close}
use Rattle.iso.specs.Limits.{iso_record_size}
use Rattle.iso.specs.Iso.{Iso, shut, ready, shown_iso_all, iso_notes}

-- ---- demand 1: refusals

-- ALL THAT A REFUSAL LEAVES BEHIND: its code, as the last of the open channel that a call names (0x02 names none), or that a connect finds in use
unfoldable pub iso_remembers : Event → ℕ → Iso → Iso
iso_remembers (connect l p f r) code c = if eqb code 0x14 then iso_notes code c else c
iso_remembers (call k x) code c = if eqb code 0x02 then c else iso_notes code c
iso_remembers (frame l w n b) code c = c
iso_remembers (advance t) code c = c
iso_remembers close code c = c

-- an event that can reach a channel: a frame of a line that there is
unfoldable pub reaches : Event → Bool
reaches (connect l p f r) = true
reaches (call k x) = true
reaches (frame l w n b) = leb l last_line
reaches (advance t) = true
reaches close = true

-- ---- counts: what a channel holds

-- the records held for reading
unfoldable pub iso_queue_of : Iso → List Rec
iso_queue_of shut = []
iso_queue_of (ready o) = o.receiving.queue

-- the written messages held for sending
unfoldable pub iso_written_of : Iso → List Rec
iso_written_of shut = []
iso_written_of (ready o) = o.written

-- the first n records of a lent buffer, as they are stored
unfoldable pub stored_iso : ℕ → List ℕ → List Rec
stored_iso zero b = []
stored_iso (suc n) b = clean b ∷ stored_iso n (drop iso_record_size b)

-- A READ, on a channel before and after it, into b: its count is the number of records moved, which were the oldest held, and they stand at
-- the buffer's start
pub record IsoReadMoved (before after : Iso) (b : List ℕ) (a : Answer) : Type 0 where
  pub records : List Rec
  pub count : length records ≡ a.value
  pub moved : iso_queue_of before ≡ records ++ iso_queue_of after
  pub shown : a.buffer ≡ shown_iso_all records ++ drop (iso_record_size * a.value) b

-- A WRITE, on a channel before and after it, from b: its count is the number of messages queued, which are b's first, behind those held
pub record IsoWriteQueued (before after : Iso) (b : List ℕ) (a : Answer) : Type 0 where
  pub records : List Rec
  pub count : length records ≡ a.value
  pub queued : iso_written_of after ≡ iso_written_of before ++ records
  pub lent : records ≡ stored_iso a.value b
