-- Where and why a recording is bad: the first event that `read_event` refuses, and the first part of it that cannot be read. Assumes nothing.
use Rattle.std.specs.Prelude.{ℕ, zero, suc, ◌+◌, ◌*◌, List, [], ◌∷◌, leb, ltb, eqb, length, get_or, drop, if◌then◌else◌}
use Rattle.std.specs.Prelude as std
use Rattle.std.proofs.Math.Option.{Option, none, some}
use Rattle.recording_sizes.specs.Sizes.{longest, most, on_iso, record_on}
use Rattle.machine.specs.Step.{Event}
use Rattle.number.specs.declared.Number.{Number}
use Rattle.number.specs.Number.{front, shortest}
use Rattle.number.specs.Place.{number_at}
use Rattle.edition.specs.Edition.{edition_event, start_of}
use Rattle.events.specs.Events.{read_event}
use Rattle.fault.specs.declared.Spot.{Spot}
use Rattle.fault.specs.declared.Fault.{Fault}

-- ---- why

abbrev pub good : ℕ
good = 0

abbrev pub cut_short : ℕ
cut_short = 1

abbrev pub not_shortest : ℕ
not_shortest = 2

abbrev pub too_large : ℕ
too_large = 3

abbrev pub over_most : ℕ
over_most = 4

abbrev pub unknown : ℕ
unknown = 5

abbrev pub too_long : ℕ
too_long = 6

abbrev pub misplaced : ℕ
misplaced = 7

abbrev pub other_edition : ℕ
other_edition = 8

-- ---- one part of an event after another, as long as all is good

abbrev pub spot : ℕ → ℕ → Spot
spot why place = record { reason = why; at = place }

unfoldable pub and_then : (ℕ → Spot) → Spot → Spot
and_then look before = if eqb before.reason good then look before.at else before

-- why a list does not begin with a number, by the bytes of the number that it begins with
unfoldable pub why_bad : Option (List ℕ) → ℕ
why_bad none = cut_short
why_bad (some g) = if shortest g then too_large else not_shortest

-- a number, and what comes after it
unfoldable pub number_then : List ℕ → ℕ → (ℕ → ℕ → Spot) → std.Option Number → Spot
number_then recording at more (std.Some n) = more n.value n.next
number_then recording at more std.None = spot (why_bad (front (drop at recording))) at

unfoldable pub number_after : List ℕ → Spot → Spot
number_after recording = and_then (λ at. number_then recording at (λ value next. spot good next) (number_at recording at))

unfoldable pub two_after : List ℕ → Spot → Spot
two_after recording before = number_after recording (number_after recording before)

-- so many raw bytes
unfoldable pub bytes_from : ℕ → List ℕ → ℕ → Spot
bytes_from size recording at = if leb (at + size) (length recording) then spot good (at + size) else spot cut_short at

unfoldable pub bytes_after : ℕ → List ℕ → Spot → Spot
bytes_after size recording = and_then (bytes_from size recording)

-- an n, at most 64, and n pieces of raw bytes
unfoldable pub pieces_from : ℕ → List ℕ → ℕ → ℕ → ℕ → Spot
pieces_from unit recording at n next = if leb n most then bytes_from (unit * n) recording next else spot over_most at

unfoldable pub pieces_after : ℕ → List ℕ → Spot → Spot
pieces_after unit recording = and_then (λ at. number_then recording at (pieces_from unit recording at) (number_at recording at))

-- ---- an event

-- the number that is told of an event; 0 where there is none
unfoldable pub told : std.Option Number → ℕ
told (std.Some n) = n.value
told std.None = 0

-- the channel that an event names before anything else
unfoldable pub channel_at : List ℕ → Spot → ℕ
channel_at recording before = told (number_at recording before.at)

-- a record of a channel
unfoldable pub record_after : ℕ → List ℕ → Spot → Spot
record_after channel = bytes_after (record_on channel)

-- nothing more
unfoldable pub no_more : List ℕ → Spot → Spot
no_more recording before = before

-- the record of the flow, on channels 5 to 8
unfoldable pub flow_after : ℕ → List ℕ → Spot → Spot
flow_after channel = if on_iso channel then record_after channel else no_more

-- the arguments of the events 0 to 16
unfoldable pub looks : List (List ℕ → Spot → Spot)
looks =
    no_more
    ∷ (λ s b. two_after s (two_after s b))
    ∷ number_after
    ∷ no_more
    ∷ number_after
    ∷ (λ s b. pieces_after 1 s (number_after s (two_after s b)))
    ∷ (λ s b. let c = channel_at s b in flow_after c s (record_after c s (record_after c s (two_after s b))))
    ∷ two_after
    ∷ (λ s b. number_after s (record_after (channel_at s b) s (number_after s b)))
    ∷ two_after
    ∷ (λ s b. pieces_after (record_on (channel_at s b)) s (number_after s b))
    ∷ (λ s b. pieces_after 0 s (number_after s b))
    ∷ number_after
    ∷ number_after
    ∷ two_after
    ∷ two_after
    ∷ (λ s b. number_after s (two_after s b))
    ∷ []

unfoldable pub arguments_after : ℕ → List ℕ → Spot → Spot
arguments_after kind = get_or looks kind no_more

-- event 0, which is none behind the mark: it stands elsewhere than at the very start, or says no edition or another than the mark's
unfoldable pub edition_fault : List ℕ → ℕ → ℕ → Spot
edition_fault recording at next =
    if eqb at 0 then number_then recording next (λ edition after. spot other_edition next) (number_at recording next) else spot misplaced at

-- its number, 1 to 16, and its arguments
unfoldable pub kind_then : List ℕ → ℕ → ℕ → ℕ → Spot
kind_then recording at kind next =
    if eqb kind edition_event then edition_fault recording at next
    else if ltb 16 kind then spot unknown at
    else arguments_after kind recording (spot good next)

-- AN EVENT: where it is good the place after it, else why it is bad, and where the part begins that is to blame
unfoldable pub event_fault : List ℕ → ℕ → Spot
event_fault recording at = number_then recording at (kind_then recording at) (number_at recording at)

-- ---- a recording

abbrev pub fault : ℕ → ℕ → ℕ → ℕ → Fault
fault why number start place = record { reason = why; event = number; from = start; at = place }

-- nothing is wrong
abbrev pub nothing : Fault
nothing = fault good 0 0 0

-- what was read at a place, after n events: on to the next, or the bad event
unfoldable pub met : Option (Event × ℕ) → List ℕ → ℕ → ℕ → (ℕ → Fault) → Fault
met none recording n at more = fault (event_fault recording at).reason (n + 1) at (event_fault recording at).at
met (some r) recording n at more = more r.1

-- the first bad event from a place on, after n events. Each event has a byte or more, so that as many turns as there are bytes are enough
unfoldable pub fault_from : ℕ → List ℕ → ℕ → ℕ → Fault
fault_from zero recording n at = nothing
fault_from (suc turns) recording n at =
    if leb (length recording) at then nothing else met (read_event recording at) recording n at (λ next. fault_from turns recording (n + 1) next)

-- THE FAULT OF A RECORDING: its first bad event behind its mark, which counts as none; one of more than 32,768 bytes is bad from there on
unfoldable pub fault_in : List ℕ → Fault
fault_in recording = if ltb longest (length recording) then fault too_long 0 0 longest else fault_from (length recording) recording 0 (start_of recording)
