-- The written messages of an ISO 15765 channel as code meets them, and the conversations that they are matched against. Assumes nothing.
use Rattle.std.specs.Prelude.{ℕ, ◌≡◌, Bool, not, ◌&&◌, List, [], ◌∷◌, T, ltb, length, if◌then◌else◌}
use Rattle.std.proofs.Math.Option.{Option, none, some}
use Rattle.codec.specs.Code.{Code, up_to}
use Rattle.machine.specs.Filter.{Slots, any_slot}
use Rattle.machine.specs.Message.{id_of, Rec, size_of, wide_of, data_of}
use Rattle.iso.specs.Limits.{most_messages, iso_record_size, longest_single}
use Rattle.iso.specs.Iso.{Talk, idle, carries, iso_write_code, iso_writing}
use Rattle.iso_layout.specs.Sizes.{messages_size}
use Rattle.iso_layout.specs.Region.{message_cell}
use Rattle.writing.specs.Store.{Kind}
use Rattle.iso_writing.specs.declared.Flow.{Flow}

-- at most 4 messages, on a connection of these flags
abbrev pub messages : ℕ → Code (List Rec)
messages flags = up_to most_messages (message_cell flags)

-- the part of a region that holds them
pub record MessagesPart (flags : ℕ) (m : List ℕ) : Type 0 where
  pub long : length m ≡ messages_size
  pub valid : T ((messages flags).valid m)

-- the way of writing on a connection of these flags, with these conversations
abbrev pub iso : ℕ → Slots Talk → Kind
iso flags ts = record { store = messages flags; size = iso_record_size; rule = iso_write_code flags ts; writes = iso_writing flags ts }

-- conversations of which nothing is known but what a message is matched against
unfoldable pub talk_by : Flow → Option Talk
talk_by f = if f.taken then some (record { wide = f.wide; pattern = 0; flow = f.id; transfer = idle }) else none

unfoldable pub talks_by : Flow → Flow → Slots Talk
talks_by one two = talk_by one ∷ talk_by two ∷ []

-- a message is segmented, and no filter matches it
unfoldable pub unmatched : Slots Talk → List ℕ → Bool
unmatched ts m = ltb longest_single (size_of m) && not (any_slot (carries (wide_of m) (id_of (data_of m))) ts)
