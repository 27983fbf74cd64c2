-- The numbers of the layout and of the scope's limits, in the order in which code names them. Assumes nothing.
use Rattle.std.specs.Prelude.{ℕ, List, [], ◌∷◌}
use Rattle.machine.specs.Limits.{lines, most_places, most_written, most_to_read, record_size, most_data, rx_status_in, tx_flags_in, timestamp_in, size_in, extra_index_in, data_in}
use Rattle.layout.specs.Sizes.{number_size, widths_in, sizes_in, masks_in, rows_size, patterns_in, filters_size, mapped_size, phases_in, pending_in, messages_in, periodics_size, written_size, flight_size, queue_size, sending_size, receiving_size, config_size, flags_at, rate_at, loopback_at, filters_at, maps_at, periodics_at, written_at, flight_at, receiving_at, lost_at, receiving_end, last_at, link_at, region_size, regions_size}
use Rattle.map_rule.specs.Map.{map_size, maps_size}
use Rattle.link_layout.specs.Sizes.{link_size}

abbrev pub named : List ℕ
named =
    lines ∷ most_places ∷ most_written ∷ most_to_read ∷ number_size ∷ record_size ∷ most_data ∷ rx_status_in ∷ tx_flags_in ∷ timestamp_in ∷ size_in
    ∷ extra_index_in ∷ data_in ∷ widths_in ∷ sizes_in ∷ masks_in ∷ rows_size ∷ patterns_in ∷ filters_size ∷ map_size ∷ maps_size ∷ mapped_size ∷ phases_in ∷ pending_in ∷ messages_in
    ∷ periodics_size ∷ written_size ∷ flight_size ∷ queue_size ∷ sending_size ∷ receiving_size ∷ config_size ∷ link_size ∷ flags_at ∷ rate_at ∷ loopback_at
    ∷ filters_at ∷ maps_at ∷ periodics_at ∷ written_at ∷ flight_at ∷ receiving_at ∷ lost_at ∷ receiving_end ∷ last_at ∷ link_at ∷ region_size ∷ regions_size ∷ []
