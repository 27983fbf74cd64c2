-- THE NUMBERS OF docs/LAYOUT.md: the size of each part of the device memory and where it begins, each said once. What code calls them stands in
-- crate `places`, and that the codes of Memory have these sizes is proved in proofs/Sizes. Assumes nothing.
use Rattle.std.specs.Prelude.{ℕ, ◌+◌, ◌*◌}
use Rattle.machine.specs.Limits.{lines, most_places, most_written, most_to_read, record_size, most_data}
use Rattle.link_layout.specs.Sizes.{link_size}
use Rattle.map_rule.specs.Map.{maps_size}

-- a number, and a mark or a count
abbrev pub number_size : ℕ
number_size = 4

-- ---- the ten filters: types, width marks, sizes, mask rows, pattern rows
abbrev pub widths_in : ℕ
widths_in = most_places

abbrev pub sizes_in : ℕ
sizes_in = widths_in + most_places

abbrev pub masks_in : ℕ
masks_in = sizes_in + most_places

abbrev pub rows_size : ℕ
rows_size = most_places * most_data

abbrev pub patterns_in : ℕ
patterns_in = masks_in + rows_size

abbrev pub filters_size : ℕ
filters_size = patterns_in + rows_size

-- with the two maps behind them
abbrev pub mapped_size : ℕ
mapped_size = filters_size + maps_size

-- ---- the ten periodics: intervals, times since the last due time, pending marks, records
abbrev pub phases_in : ℕ
phases_in = most_places * number_size

abbrev pub pending_in : ℕ
pending_in = phases_in + most_places * number_size

abbrev pub messages_in : ℕ
messages_in = pending_in + most_places

abbrev pub periodics_size : ℕ
periodics_size = messages_in + most_places * record_size

-- ---- stores: how many, then the records
abbrev pub written_size : ℕ
written_size = 1 + most_written * record_size

abbrev pub flight_size : ℕ
flight_size = 1 + record_size

abbrev pub queue_size : ℕ
queue_size = 1 + most_to_read * record_size

abbrev pub sending_size : ℕ
sending_size = periodics_size + written_size + flight_size

-- the queue, then the lost mark
abbrev pub receiving_size : ℕ
receiving_size = queue_size + 1

-- flags, rate, loopback mark
abbrev pub config_size : ℕ
config_size = number_size + number_size + 1

-- ---- the region of an open channel: the open mark, then
abbrev pub flags_at : ℕ
flags_at = 1

abbrev pub rate_at : ℕ
rate_at = flags_at + number_size

abbrev pub loopback_at : ℕ
loopback_at = rate_at + number_size

abbrev pub filters_at : ℕ
filters_at = flags_at + config_size

-- the maps of pass and of block
abbrev pub maps_at : ℕ
maps_at = filters_at + filters_size

abbrev pub periodics_at : ℕ
periodics_at = maps_at + maps_size

abbrev pub written_at : ℕ
written_at = periodics_at + periodics_size

abbrev pub flight_at : ℕ
flight_at = written_at + written_size

abbrev pub receiving_at : ℕ
receiving_at = flight_at + flight_size

abbrev pub lost_at : ℕ
lost_at = receiving_at + queue_size

abbrev pub receiving_end : ℕ
receiving_end = receiving_at + receiving_size

-- the last code
abbrev pub last_at : ℕ
last_at = receiving_end

-- the TP2.0 connection
abbrev pub link_at : ℕ
link_at = last_at + 1

abbrev pub region_size : ℕ
region_size = link_at + link_size

-- ---- the regions of the four raw channels
abbrev pub regions_size : ℕ
regions_size = lines * region_size
