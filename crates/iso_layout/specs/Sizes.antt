-- THE NUMBERS OF docs/LAYOUT.md for ISO 15765 channels: the size of each part of a region and where it begins, each said once. That the codes of
-- Region have these sizes is proved in proofs/Sizes. Assumes nothing.
use Rattle.std.specs.Prelude.{ℕ, ◌+◌, ◌*◌}
use Rattle.layout.specs.Sizes.{number_size, config_size}
use Rattle.iso.specs.Limits.{most_talks, most_messages, most_heard, most_payload, iso_record_size}

-- ---- at most 508 payload bytes: how many, then they
abbrev pub payload_size : ℕ
payload_size = number_size + most_payload

-- ---- a transfer: what it is; the length or the bytes taken, the time, the frames left, STmin; the go-on mark; the payload
abbrev pub count_in : ℕ
count_in = 1

abbrev pub time_in : ℕ
time_in = count_in + number_size

abbrev pub left_in : ℕ
left_in = time_in + number_size

abbrev pub gap_in : ℕ
gap_in = left_in + number_size

abbrev pub go_on_in : ℕ
go_on_in = gap_in + number_size

abbrev pub payload_in : ℕ
payload_in = go_on_in + 1

abbrev pub transfer_size : ℕ
transfer_size = payload_in + payload_size

-- ---- a conversation's place: the taken mark; the width mark, pattern, flow, the transfer
abbrev pub pattern_in : ℕ
pattern_in = 2

abbrev pub flow_in : ℕ
flow_in = pattern_in + number_size

abbrev pub transfer_in : ℕ
transfer_in = flow_in + number_size

abbrev pub talk_size : ℕ
talk_size = transfer_in + transfer_size

abbrev pub talks_size : ℕ
talks_size = most_talks * talk_size

-- ---- stores: how many, then the records; the flight: the taken mark, what it belongs to, the frame
abbrev pub messages_size : ℕ
messages_size = 1 + most_messages * iso_record_size

abbrev pub iso_flight_size : ℕ
iso_flight_size = 2 + iso_record_size

abbrev pub heard_size : ℕ
heard_size = 1 + most_heard * iso_record_size

-- ---- the region of an open channel: the open mark, the configuration, then
abbrev pub talks_at : ℕ
talks_at = 1 + config_size

abbrev pub messages_at : ℕ
messages_at = talks_at + talks_size

abbrev pub iso_flight_at : ℕ
iso_flight_at = messages_at + messages_size

abbrev pub heard_at : ℕ
heard_at = iso_flight_at + iso_flight_size

abbrev pub iso_lost_at : ℕ
iso_lost_at = heard_at + heard_size

abbrev pub iso_last_at : ℕ
iso_last_at = iso_lost_at + 1

abbrev pub iso_region_size : ℕ
iso_region_size = iso_last_at + 1
