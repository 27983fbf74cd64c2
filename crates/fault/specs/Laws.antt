-- What is proved of a fault: it agrees with the reader of events, and a fault always has a reason. The proofs are in proofs/Agreeing. Assumes
-- nothing.
use Rattle.std.specs.Prelude.{ℕ, List, ◌≡◌}
use Rattle.std.proofs.Math.Option.{Option, none, some}
use Rattle.events.specs.Events.{read_event}
use Rattle.fault.specs.declared.Spot.{Spot}
use Rattle.fault.specs.Fault.{good, spot, event_fault, nothing, fault_in}

-- what was looked at agrees with what was read: the place after it, or some reason
abbrev pub Agrees : {A : Type 0} → Option (A × ℕ) → Spot → Type 0
Agrees none x = x.reason ≡ good → ⊥
Agrees (some r) x = x ≡ spot good r.1

-- an event is good, and ends there, exactly where the reader of events takes it
abbrev pub EventsAgree : Type 0
EventsAgree = (recording : List ℕ) (at : ℕ) → Agrees (read_event recording at) (event_fault recording at)

-- a recording with a bad event is told why
abbrev pub FaultsHaveReasons : Type 0
FaultsHaveReasons = (recording : List ℕ) → (fault_in recording).reason ≡ good → fault_in recording ≡ nothing
