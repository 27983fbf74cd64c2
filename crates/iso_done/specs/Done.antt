-- A message that was sent, and that what it tells can be held. Assumes nothing.
use Rattle.std.specs.Prelude.{ℕ, Bool, List, ◌++◌, T}
use Rattle.codec.specs.Plain.{all}
use Rattle.machine.specs.Message.{Rec, id_bytes}
use Rattle.iso.specs.Iso.{tx_done}
use Rattle.iso_layout.specs.Region.{heard_cell, heard_part}

unfoldable pub message_of : (tx id : ℕ) → List ℕ → Rec
message_of tx id payload = record { rx = 0; tx = tx; time = 0; bytes = id_bytes id ++ payload }

-- on a connection of some flags
pub record Tellable (q : List ℕ) (clock : ℕ) (loopback : Bool) (m : Rec) : Type 0 where
  pub flags : ℕ
  pub valid : T ((heard_part flags).valid q)
  pub fits : T (all (heard_cell flags).ok (tx_done clock loopback m))
