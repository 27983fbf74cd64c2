-- The numbers of request P3 and of ISO 15765-2 that stand in more than one rule, each under one name. Assumes nothing.
use Rattle.std.specs.Prelude.{ℕ, ◌+◌}

-- the protocol of ISO 15765
abbrev pub iso_protocol : ℕ
iso_protocol = 6

-- channels 5 to 8 are on lines 0 to 3
abbrev pub first_iso : ℕ
first_iso = 5

-- two flow-control conversations a channel
abbrev pub most_talks : ℕ
most_talks = 2

-- at most 4 written messages and 8 records to read a channel
abbrev pub most_messages : ℕ
most_messages = 4

abbrev pub most_heard : ℕ
most_heard = 8

-- a record's data bytes: an identifier of four and at most 508 of payload; its six numbers stand before them
abbrev pub id_size : ℕ
id_size = 4

abbrev pub most_payload : ℕ
most_payload = 508

abbrev pub iso_data : ℕ
iso_data = id_size + most_payload

abbrev pub iso_record_size : ℕ
iso_record_size = 24 + iso_data

-- a written message has a payload of one byte or more
abbrev pub least_message : ℕ
least_message = 5

-- one frame carries 7 payload bytes: a message of at most 11 bytes is a single frame, 12 and more are segmented
abbrev pub in_single : ℕ
in_single = 7

abbrev pub longest_single : ℕ
longest_single = id_size + in_single

-- a segmented message has 8 payload bytes or more: 6 in its first frame, 7 in each consecutive one but the last
abbrev pub least_segmented : ℕ
least_segmented = 8

abbrev pub in_first : ℕ
in_first = 6

abbrev pub in_next : ℕ
in_next = 7

-- one second without the awaited frame drops a transfer, in microseconds
abbrev pub second : ℕ
second = 1000000

-- the longest STmin, in microseconds
abbrev pub longest_gap : ℕ
longest_gap = 127000
