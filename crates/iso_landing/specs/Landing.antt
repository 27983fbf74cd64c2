-- The channel of an open region after messages were sent: what they tell has arrived. Assumes nothing.
use Rattle.std.specs.Prelude.{ℕ, List, [], drop, T}
use Rattle.std.proofs.Math.Option.{Option, none, some}
use Rattle.codec.specs.Plain.{all}
use Rattle.machine.specs.Message.{Rec}
use Rattle.machine.specs.Filter.{Slots}
use Rattle.iso.specs.Iso.{Talk, Flight, OpenIso, set_talks, set_flight, set_receiving, arrive_iso, done_records, landed_talks, messages_done}
use Rattle.iso_layout.specs.Region.{heard_cell, ready_part}

unfoldable pub channel_in : List ℕ → OpenIso
channel_in r = ready_part.get (drop 1 r)

unfoldable pub arrives : ℕ → OpenIso → List Rec → OpenIso
arrives clock o ms = set_receiving o (arrive_iso o.receiving (done_records clock o.config.loopback ms))

-- what they tell can be held
abbrev pub Holds : ℕ → OpenIso → List Rec → Type 0
Holds clock o ms = T (all (heard_cell o.config.flags).ok (done_records clock o.config.loopback ms))

-- the messages that the sent of what is in flight ends, and the channel with nothing in flight and its transfer gone on
unfoldable pub ended_by : Option Flight → Slots Talk → List Rec
ended_by none ts = []
ended_by (some f) ts = messages_done f f.owner ts

unfoldable pub landed_by : Option Flight → OpenIso → OpenIso
landed_by none o = o
landed_by (some f) o = set_flight (set_talks o (landed_talks f.owner o.talks)) none
