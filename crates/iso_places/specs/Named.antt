-- The numbers of an ISO 15765 region and of request P3's limits, in the order in which code names them. Assumes nothing.
use Rattle.std.specs.Prelude.{ℕ, List, [], ◌∷◌}
use Rattle.iso.specs.Limits.{most_talks, most_messages, most_heard, most_payload, iso_data, iso_record_size}
use Rattle.iso_layout.specs.Sizes.{payload_size, count_in, time_in, left_in, gap_in, go_on_in, payload_in, transfer_size, pattern_in, flow_in, transfer_in, talk_size, talks_size, messages_size, iso_flight_size, heard_size, talks_at, messages_at, iso_flight_at, heard_at, iso_lost_at, iso_last_at, iso_region_size}

abbrev pub named : List ℕ
named =
    most_talks ∷ most_messages ∷ most_heard ∷ most_payload ∷ iso_data ∷ iso_record_size ∷ count_in ∷ time_in ∷ left_in ∷ gap_in ∷ go_on_in ∷ payload_in ∷ payload_size
    ∷ transfer_size ∷ pattern_in ∷ flow_in ∷ transfer_in ∷ talk_size ∷ talks_size ∷ messages_size ∷ iso_flight_size ∷ heard_size ∷ talks_at ∷ messages_at ∷ iso_flight_at
    ∷ heard_at ∷ iso_lost_at ∷ iso_last_at ∷ iso_region_size ∷ []
