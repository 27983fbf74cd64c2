-- What one event of a replay leaves, with a set of rates, and what the mark of its edition does. Assumes nothing.
use Rattle.std.specs.Prelude.{ℕ, Bool, true, false, List, ◌≡◌, length}
use Rattle.std.proofs.Math.Option.{Option, none, some}
use Rattle.machine.specs.Step.{Event}
use Rattle.layout.specs.Reach.{Bytes}
use Rattle.whole.specs.Device.{step}
use Rattle.memory.specs.Memory.{image, load}
use Rattle.recording_sizes.specs.Sizes.{bad_number}
use Rattle.number.specs.Place.{Written}
use Rattle.edition.specs.Edition.{mark_size, mark_at}
use Rattle.events.specs.Events.{read_event}
use Rattle.answers.specs.Output.{answer_bytes}
use Rattle.answers.specs.Put.{Put}

-- an event was answered: the memory is that of the box's next state, and the answer was written at a place of a buffer
pub record Answered (rates : List ℕ) (e : Event) (m buffer : List ℕ) (at next : ℕ) (m' buffer' : List ℕ) : Type 0 where
  pub memory : m' ≡ image (step rates (load m) e).0
  pub written : Put buffer at (answer_bytes e (step rates (load m) e).1) next buffer'

-- what was read at a place was played: an event is answered, what it lends is bytes, and the replay goes on after it; where there is none, the
-- number of a bad event is written, and the replay is at the recording's end
unfoldable pub TurnedAs : List ℕ → Option (Event × ℕ) → List ℕ → List ℕ → List ℕ → ℕ → ℕ → ℕ → List ℕ → List ℕ → Type 0
TurnedAs rates none s m buffer at next place m' buffer' = (m' ≡ m) × (next ≡ length s) × Written buffer at bad_number place buffer'
TurnedAs rates (some r) s m buffer at next place m' buffer' = (next ≡ r.1) × Bytes r.0 × Answered rates r.0 m buffer at place m' buffer'

-- at the mark of the edition nothing is played and nothing written, and the replay goes on behind it
pub record PassedOver (m buffer : List ℕ) (place next place' : ℕ) (m' buffer' : List ℕ) : Type 0 where
  pub behind : next ≡ mark_size
  pub here : place' ≡ place
  pub memory : m' ≡ m
  pub output : buffer' ≡ buffer

-- what stands at a place was played: the mark, or an event
unfoldable pub TurnedBy : Bool → List ℕ → List ℕ → ℕ → List ℕ → List ℕ → ℕ → ℕ → ℕ → List ℕ → List ℕ → Type 0
TurnedBy true rates s at m buffer place next place' m' buffer' = PassedOver m buffer place next place' m' buffer'
TurnedBy false rates s at m buffer place next place' m' buffer' = TurnedAs rates (read_event s at) s m buffer place next place' m' buffer'

unfoldable pub Turned : List ℕ → List ℕ → ℕ → List ℕ → List ℕ → ℕ → ℕ → ℕ → List ℕ → List ℕ → Type 0
Turned rates s at m buffer place next place' m' buffer' = TurnedBy (mark_at s at) rates s at m buffer place next place' m' buffer'
