-- The periodics of a channel as code meets them: the part of a region that holds them, and one of them changed. Assumes nothing.
use Rattle.std.specs.Prelude.{ℕ, ◌≡◌, List, T, length, get_or, set}
use Rattle.std.proofs.Math.Option.{Option, none, some}
use Rattle.machine.specs.Filter.{Slots}
use Rattle.machine.specs.Channel.{Periodic}
use Rattle.layout.specs.Sizes.{periodics_size}
use Rattle.layout.specs.Memory.{periodics}

-- the part of a region that holds the periodics of a connection of some flags
pub record PeriodicPart (m : List ℕ) : Type 0 where
  pub flags : ℕ
  pub long : length m ≡ periodics_size
  pub valid : T ((periodics flags).valid m)

-- place i with what a change makes of it
unfoldable pub changed : (Option Periodic → Option Periodic) → ℕ → Slots Periodic → Slots Periodic
changed f i ps = set ps i (f (get_or ps i none))
