-- The numbers of the definitions that code goes by in the bytes of a TP2.0 connection, in the order of `numbers`. Assumes nothing.
use Rattle.std.specs.Prelude.{ℕ, List, [], ◌∷◌}
use Rattle.link.specs.Connection.{longest}
use Rattle.link_layout.specs.Sizes.{which_size, text_size, rx_id_in, destination_in, application_in, block_size_in, t1_in, t3_in, asked_size, trial_in, trials_size, tests_in, unanswered_in, left_in, care_size, repeats_in, again_in, rest_in, block_bytes, sn_in, out_in, block_in, out_size, talk_size, ack_in, complete_in, bytes_in, hear_size, pace_in, wire_in, care_in, talk_in, hear_in, standing_size, asked_at, tx_id_at, trials_at, exit_at, standing_at, wire_at, care_at, talk_at, out_at, hear_at, link_size}

abbrev pub named : List ℕ
named =
    longest
    ∷ which_size
    ∷ text_size
    ∷ rx_id_in
    ∷ destination_in
    ∷ application_in
    ∷ block_size_in
    ∷ t1_in
    ∷ t3_in
    ∷ asked_size
    ∷ trial_in
    ∷ trials_size
    ∷ tests_in
    ∷ unanswered_in
    ∷ left_in
    ∷ care_size
    ∷ repeats_in
    ∷ again_in
    ∷ rest_in
    ∷ block_bytes
    ∷ sn_in
    ∷ out_in
    ∷ block_in
    ∷ out_size
    ∷ talk_size
    ∷ ack_in
    ∷ complete_in
    ∷ bytes_in
    ∷ hear_size
    ∷ pace_in
    ∷ wire_in
    ∷ care_in
    ∷ talk_in
    ∷ hear_in
    ∷ standing_size
    ∷ asked_at
    ∷ tx_id_at
    ∷ trials_at
    ∷ exit_at
    ∷ standing_at
    ∷ wire_at
    ∷ care_at
    ∷ talk_at
    ∷ out_at
    ∷ hear_at
    ∷ link_size
    ∷ []
