-- What an echo is made of. Assumes nothing.
use Rattle.std.specs.Prelude.{◌≡◌, ℕ, List, length, T}
use Rattle.machine.specs.Limits.{record_size}
use Rattle.layout.specs.Record.{out_cell}

-- the 36 bytes of a record that is held to be sent, on a connection of some flags
pub record Outgoing (m : List ℕ) : Type 0 where
  pub flags : ℕ
  pub long : length m ≡ record_size
  pub valid : T ((out_cell flags).valid m)
