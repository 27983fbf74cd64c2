-- The events of a recording, up to its end or its first bad event: what the shift report and the export of a log go over. Assumes nothing.
use Rattle.std.specs.Prelude.{ℕ, zero, suc, List, [], ◌∷◌, leb, ltb, length, if◌then◌else◌}
use Rattle.std.proofs.Math.Option.{Option, none, some}
use Rattle.recording_sizes.specs.Sizes.{longest}
use Rattle.machine.specs.Step.{Event}
use Rattle.edition.specs.Edition.{start_of}
use Rattle.events.specs.Events.{read_event}

-- what was read, and what comes after it
unfoldable pub and_then : Option (Event × ℕ) → (ℕ → List Event) → List Event
and_then none more = []
and_then (some r) more = r.0 ∷ more r.1

-- the events from a place on. Each has a byte or more, so that as many turns as there are bytes are enough
unfoldable pub events_from : ℕ → List ℕ → ℕ → List Event
events_from zero recording at = []
events_from (suc turns) recording at =
    if leb (length recording) at then [] else and_then (read_event recording at) (λ next. events_from turns recording next)

-- THE EVENTS, behind the mark of the edition; none of a recording of more than 32,768 bytes
unfoldable pub events_of : List ℕ → List Event
events_of recording = if ltb longest (length recording) then [] else events_from (length recording) recording (start_of recording)
