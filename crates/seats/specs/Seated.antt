-- Where a call on a channel finds its region, in a valid memory. Assumes nothing.
use Rattle.std.specs.Prelude.{ℕ, ◌≡◌, true, List, Option, Some, None}
use Rattle.machine.specs.Channel.{Call, raw_only, lent}
use Rattle.machine.specs.Step.{call}
use Rattle.layout.specs.Promise.{gives}
use Rattle.memory.specs.Promise.{outcome, RawSeat, IsoSeat}
use Rattle.seats.specs.declared.Seat.{Seat}
use Rattle.seats.specs.declared.Seat.TheVariants.{Raw, Iso}

-- a call on the channel is refused, whatever it is
abbrev pub Refused : List ℕ → ℕ → Type 0
Refused m k = (rates : List ℕ) (x : Call) → gives 0x02 0 (lent x) m ≡ outcome rates m (call k x)

-- nowhere, and a call on the channel is refused; or in its seat, by the kind of channel
abbrev pub Seated : List ℕ → ℕ → Option Seat → Type 0
Seated m k None = Refused m k
Seated m k (Some (Raw base)) = RawSeat m k base
Seated m k (Some (Iso base)) = IsoSeat m k base

-- for a call that takes the number of a raw channel: nowhere also where the number is that of another channel
abbrev pub RawSeated : List ℕ → ℕ → Option ℕ → Type 0
RawSeated m k None = (rates : List ℕ) (x : Call) → raw_only x ≡ true → gives 0x02 0 (lent x) m ≡ outcome rates m (call k x)
RawSeated m k (Some base) = RawSeat m k base
