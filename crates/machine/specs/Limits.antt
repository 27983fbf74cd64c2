-- The scope's numbers that stand in more than one rule, each under one name. Assumes nothing.
use Rattle.std.specs.Prelude.{ℕ, ◌-◌}

-- the box has four lines, 0 to 3, and a channel a line
abbrev pub lines : ℕ
lines = 4

abbrev pub last_line : ℕ
last_line = lines - 1

-- the protocol of raw CAN
abbrev pub can_protocol : ℕ
can_protocol = 5

-- at most ten filters and ten periodics a channel
abbrev pub most_places : ℕ
most_places = 10

-- at most 16 written records and 32 records to read a channel
abbrev pub most_written : ℕ
most_written = 16

abbrev pub most_to_read : ℕ
most_to_read = 32

-- at most 16 parameters in a list
abbrev pub most_pairs : ℕ
most_pairs = 16

-- a record's bytes, and its data bytes: an identifier of four and at most eight of a frame
abbrev pub record_size : ℕ
record_size = 36

abbrev pub least_data : ℕ
least_data = 4

abbrev pub most_data : ℕ
most_data = 12

abbrev pub most_bytes : ℕ
most_bytes = 8

-- an interval in milliseconds, and a millisecond in microseconds
abbrev pub least_interval : ℕ
least_interval = 5

abbrev pub most_interval : ℕ
most_interval = 65535

abbrev pub millisecond : ℕ
millisecond = 1000

-- an advance in microseconds
abbrev pub most_advance : ℕ
most_advance = 1000000

-- where the fields of a record begin, behind its protocol; its data begin with the identifier
abbrev pub rx_status_in : ℕ
rx_status_in = 4

abbrev pub tx_flags_in : ℕ
tx_flags_in = 8

abbrev pub timestamp_in : ℕ
timestamp_in = 12

abbrev pub size_in : ℕ
size_in = 16

abbrev pub extra_index_in : ℕ
extra_index_in = 20

abbrev pub data_in : ℕ
data_in = 24
