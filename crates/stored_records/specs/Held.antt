-- A record held for sending or for reading, as the functions that decide validity look at it. Assumes nothing.
use Rattle.std.specs.Prelude.{ℕ, Bool, List, drop, if◌then◌else◌}
use Rattle.codec.specs.Word.{word_at}
use Rattle.codec.specs.Code.{Code}
use Rattle.machine.specs.Limits.{rx_status_in, tx_flags_in, timestamp_in, data_in}
use Rattle.machine.specs.Message.{Rec}
use Rattle.layout.specs.Record.{out_cell, in_cell}

-- a record held for sending, or for reading
unfoldable pub cell : Bool → ℕ → Code Rec
cell sending flags = if sending then out_cell flags else in_cell flags

-- the fields of a record that lies in 36 bytes; its data with what follows them
unfoldable pub fields_of : List ℕ → Rec
fields_of m = record { rx = word_at rx_status_in m; tx = word_at tx_flags_in m; time = word_at timestamp_in m; bytes = drop data_in m }
