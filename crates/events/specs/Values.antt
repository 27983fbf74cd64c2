-- Each case of the event enums by the scope's section "Recording": its number, 1 to 16, and its values in their order, as the reader gives them.
-- Raw bytes are given by the places where they start and end. Assumes nothing.
use Rattle.std.specs.Prelude.{ℕ, ◌+◌, ◌*◌, ◌-◌, List, [], ◌∷◌, ◌++◌, leb, length, get_or, if◌then◌else◌}
use Rattle.std.specs.Prelude as std
use Rattle.std.proofs.Math.Option.{Option, none, some}
use Rattle.recording_sizes.specs.Sizes.{on_iso, record_on}
use Rattle.events.specs.Events.{Reads, ◌>>=◌, done, bad, number, at_most64}
use Rattle.events.specs.declared.Plain.{Plain}
use Rattle.events.specs.declared.Plain.TheVariants as plain
use Rattle.events.specs.declared.Giving.{Giving}
use Rattle.events.specs.declared.Giving.TheVariants as giving
use Rattle.events.specs.declared.Event.{Event}
use Rattle.events.specs.declared.Event.TheVariants as event

-- ---- the cases of the enums

abbrev pub plain_number : Plain → ℕ
plain_number (plain.Disconnect channel) = 2
plain_number plain.Close = 3
plain_number (plain.Advance us) = 4
plain_number (plain.Frame line wide id from end) = 5
plain_number (plain.StopFilter channel filter) = 7
plain_number (plain.StopPeriodic channel periodic) = 9
plain_number (plain.Sent channel) = 13
plain_number (plain.Clear channel kind) = 14
plain_number (plain.Set channel parameter value) = 16

abbrev pub giving_number : Giving → ℕ
giving_number (giving.Connect line protocol flags rate) = 1
giving_number (giving.StartFilter channel type mask pattern end) = 6
giving_number (giving.StartFlow channel type mask pattern flow end) = 6
giving_number (giving.StartPeriodic channel from end interval) = 8
giving_number (giving.Get channel parameter) = 15

abbrev pub number_of : Event → ℕ
number_of (event.Code e) = plain_number e
number_of (event.Number e) = giving_number e
number_of (event.Write channel n from end) = 10
number_of (event.Read channel n) = 11
number_of (event.Take channel) = 12

abbrev pub plain_values : Plain → List ℕ
plain_values (plain.Disconnect channel) = channel ∷ []
plain_values plain.Close = []
plain_values (plain.Advance us) = us ∷ []
plain_values (plain.Frame line wide id from end) = line ∷ wide ∷ id ∷ (end - from) ∷ from ∷ end ∷ []
plain_values (plain.StopFilter channel filter) = channel ∷ filter ∷ []
plain_values (plain.StopPeriodic channel periodic) = channel ∷ periodic ∷ []
plain_values (plain.Sent channel) = channel ∷ []
plain_values (plain.Clear channel kind) = channel ∷ kind ∷ []
plain_values (plain.Set channel parameter value) = channel ∷ parameter ∷ value ∷ []

abbrev pub giving_values : Giving → List ℕ
giving_values (giving.Connect line protocol flags rate) = line ∷ protocol ∷ flags ∷ rate ∷ []
giving_values (giving.StartFilter channel type mask pattern end) = channel ∷ type ∷ mask ∷ pattern ∷ pattern ∷ end ∷ []
giving_values (giving.StartFlow channel type mask pattern flow end) = channel ∷ type ∷ mask ∷ pattern ∷ pattern ∷ flow ∷ flow ∷ end ∷ []
giving_values (giving.StartPeriodic channel from end interval) = channel ∷ from ∷ end ∷ interval ∷ []
giving_values (giving.Get channel parameter) = channel ∷ parameter ∷ []

abbrev pub values_of : Event → List ℕ
values_of (event.Code e) = plain_values e
values_of (event.Number e) = giving_values e
values_of (event.Write channel n from end) = channel ∷ n ∷ from ∷ end ∷ []
values_of (event.Read channel n) = channel ∷ n ∷ []
values_of (event.Take channel) = channel ∷ []

-- an event's number and values, and the place after it; none where it is bad
abbrev pub said_by : std.Option (Event × ℕ) → Option ((ℕ × List ℕ) × ℕ)
said_by (std.Some (e, next)) = some ((number_of e, values_of e), next)
said_by std.None = none

-- ---- the same, as they lie in a recording

-- a number; an n, at most 64; raw bytes, where they start and end; an n and so many pieces of raw bytes
unfoldable pub value : Reads (List ℕ)
value = do v ← number; done (v ∷ [])

unfoldable pub count : Reads (List ℕ)
count = do n ← at_most64; done (n ∷ [])

unfoldable pub raw : ℕ → Reads (List ℕ)
raw size recording at = if leb (at + size) (length recording) then some (at ∷ (at + size) ∷ [], at + size) else none

unfoldable pub pieces : ℕ → Reads (List ℕ)
pieces unit = do n ← at_most64; ends ← raw (unit * n); done (n ∷ ends)

-- one after the other
unfoldable pub in_order : List (Reads (List ℕ)) → Reads (List ℕ)
in_order [] = done []
in_order (p ∷ ps) = do v ← p; vs ← in_order ps; done (v ++ vs)

-- a channel, and then what depends on it
unfoldable pub channel_then : (ℕ → List (Reads (List ℕ))) → Reads (List ℕ)
channel_then parts = do channel ← number; vs ← in_order (parts channel); done (channel ∷ vs)

-- the record of the flow, on channels 5 to 8
unfoldable pub flow_on : ℕ → List (Reads (List ℕ))
flow_on channel = if on_iso channel then raw (record_on channel) ∷ [] else []

-- the values of the events 0 to 16
unfoldable pub values : List (Reads (List ℕ))
values =
    bad
    ∷ in_order (value ∷ value ∷ value ∷ value ∷ [])
    ∷ in_order (value ∷ [])
    ∷ in_order []
    ∷ in_order (value ∷ [])
    ∷ in_order (value ∷ value ∷ value ∷ pieces 1 ∷ [])
    ∷ channel_then (λ channel. value ∷ raw (record_on channel) ∷ raw (record_on channel) ∷ flow_on channel)
    ∷ in_order (value ∷ value ∷ [])
    ∷ channel_then (λ channel. raw (record_on channel) ∷ value ∷ [])
    ∷ in_order (value ∷ value ∷ [])
    ∷ channel_then (λ channel. pieces (record_on channel) ∷ [])
    ∷ in_order (value ∷ count ∷ [])
    ∷ in_order (value ∷ [])
    ∷ in_order (value ∷ [])
    ∷ in_order (value ∷ value ∷ [])
    ∷ in_order (value ∷ value ∷ [])
    ∷ in_order (value ∷ value ∷ value ∷ [])
    ∷ []

-- the number of an event and its values; any other number is unknown
unfoldable pub values_after : ℕ → Reads (ℕ × List ℕ)
values_after kind = do v ← get_or values kind bad; done (kind, v)

-- THE NUMBER OF AN EVENT, then its values
unfoldable pub read_values : Reads (ℕ × List ℕ)
read_values = do kind ← number; values_after kind
