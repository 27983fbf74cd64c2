-- The written messages of a region, and a frame that goes into its flight. Assumes nothing.
use Rattle.std.specs.Prelude.{ℕ, List}
use Rattle.std.proofs.Math.Option.{Option, some}
use Rattle.codec.specs.Code.{Code, up_to, slot}
use Rattle.machine.specs.Message.{Rec}
use Rattle.iso.specs.Limits.{most_messages}
use Rattle.iso.specs.Iso.{Owner, Flight}
use Rattle.iso_layout.specs.Region.{message_cell, flight_code}

abbrev pub messages : ℕ → Code (List Rec)
messages flags = up_to most_messages (message_cell flags)

unfoldable pub flown : ℕ → Rec → Owner → List ℕ
flown flags r w = (slot (flight_code flags)).put (some (record { frame = r; owner = w }))
