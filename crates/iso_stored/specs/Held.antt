-- A record of an ISO 15765 channel, a written message or one held for reading, as the functions that decide validity look at it. Assumes nothing.
use Rattle.std.specs.Prelude.{ℕ, Bool, List, length, T, ◌≡◌, if◌then◌else◌}
use Rattle.codec.specs.Code.{Code}
use Rattle.machine.specs.Message.{Rec}
use Rattle.iso.specs.Limits.{iso_record_size}
use Rattle.iso_layout.specs.Record.{rec536, message_cell, heard_cell}

-- 536 bytes that are a record, whatever it waits for
pub record IsRecord (m : List ℕ) : Type 0 where
  pub long : length m ≡ iso_record_size
  pub valid : T (rec536.valid m)

-- a written message, or a record held for reading
unfoldable pub held : Bool → ℕ → Code Rec
held sending flags = if sending then message_cell flags else heard_cell flags
