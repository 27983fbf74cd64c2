-- A frame chosen to be sent on an open channel: what it belongs to, the channel with it in flight, and what the conversation at a place gives. Assumes
-- nothing.
use Rattle.std.specs.Prelude.{◌≡◌, ℕ, ◌+◌, ◌<◌, Bool, true, false, List, length, get_or, set, drop, T, eqb, if◌then◌else◌}
use Rattle.std.proofs.Math.Option.{Option, none, some}
use Rattle.machine.specs.Message.{Rec, bit, id_of}
use Rattle.machine.specs.Filter.{Slots}
use Rattle.iso.specs.Limits.{id_size, longest_single}
use Rattle.iso.specs.Iso.{Talk, Owner, OpenIso, ready, Given, Chosen, set_talks, set_written, set_flight, turned, framed, answer_of, segment_of, start_of}
use Rattle.iso_layout.specs.Record.{message_cell}
use Rattle.iso_layout.specs.Region.{ready_part, iso_region}

abbrev pub channel_in : List ℕ → OpenIso
channel_in r = ready_part.get (drop 1 r)

-- ---- a frame that a conversation sends

-- what the frame of the conversation at place k belongs to, by its first byte: an overflow (0x32) ends its transfer
unfoldable pub owner_of : ℕ → ℕ → ℕ
owner_of k first = if eqb first 0x32 then 0 else k + 2

-- the channel with such a frame in flight
unfoldable pub flying : OpenIso → Talk → Owner → List ℕ → OpenIso
flying o c w b = set_flight o (some (record { frame = framed c.wide c.flow b; owner = w }))

-- ---- what is chosen

unfoldable pub chose : Option Chosen → Bool
chose none = false
chose (some x) = true

unfoldable pub taking : OpenIso → Option Chosen → OpenIso
taking o none = o
taking o (some x) = set_flight (set_written (set_talks o x.talks) x.written) (some (record { frame = x.frame; owner = x.owner }))

-- b says whether a frame was chosen, and u is the region r with it in flight
abbrev pub Chose : Option Chosen → Bool → List ℕ → List ℕ → Type 0
Chose x b r u = (b ≡ chose x) × (u ≡ iso_region.put (ready (taking (channel_in r) x)))

-- ---- by one conversation

abbrev pub Rule : Type 0
Rule = ℕ → Talk → Option Given

abbrev pub answers : Rule
answers k c = answer_of k c c.transfer

abbrev pub segments : Rule
segments k c = segment_of k c c.transfer

abbrev pub starts : Rec → Rule
starts m k c = start_of m k c c.transfer

unfoldable pub chosen_at : ℕ → Slots Talk → List Rec → Talk → Option Given → Option Chosen
chosen_at k ts ws c none = none
chosen_at k ts ws c (some g) = some (record { frame = g.frame; owner = g.owner; talks = set ts k (some (turned c g.transfer)); written = ws })

unfoldable pub given_in : Rule → ℕ → Slots Talk → List Rec → Option Talk → Option Chosen
given_in f k ts ws none = none
given_in f k ts ws (some c) = chosen_at k ts ws c (f k c)

unfoldable pub given_at : Rule → ℕ → OpenIso → Option Chosen
given_at f k o = given_in f k o.talks o.written (get_or o.talks k none)

-- a message that is segmented, written on a connection of these flags, with its width, its identifier and its payload
pub record Segmented (flags : ℕ) (wide : Bool) (id : ℕ) (payload : List ℕ) (m : Rec) : Type 0 where
  pub ok : T ((message_cell flags).ok m)
  pub long : longest_single < length m.bytes
  pub width : bit 0x100 m.tx ≡ wide
  pub identifier : id_of m.bytes ≡ id
  pub rest : drop id_size m.bytes ≡ payload

pub record Startable (flags : ℕ) (wide : Bool) (id : ℕ) (payload : List ℕ) : Type 0 where
  pub message : Rec
  pub is : Segmented flags wide id payload message
