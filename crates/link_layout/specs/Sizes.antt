-- THE NUMBERS OF docs/LAYOUT.md for a TP2.0 connection: the size of each part of it and where it begins, each said once. That the codes of Connection
-- have these sizes is proved in proofs/Bytes and proofs/Places. Assumes nothing.
use Rattle.std.specs.Prelude.{ℕ, ◌+◌}
use Rattle.link.specs.Connection.{longest}

-- ---- a number; a byte that says which, with a number behind it; at most 512 bytes: how many, then they
abbrev pub word_size : ℕ
word_size = 4

abbrev pub which_size : ℕ
which_size = 1 + word_size

abbrev pub text_size : ℕ
text_size = word_size + longest

-- ---- what was asked for: own identifier, RX-ID, destination, application, block size, T1, T3
abbrev pub rx_id_in : ℕ
rx_id_in = word_size

abbrev pub destination_in : ℕ
destination_in = rx_id_in + word_size

abbrev pub application_in : ℕ
application_in = destination_in + 1

abbrev pub block_size_in : ℕ
block_size_in = application_in + 1

abbrev pub t1_in : ℕ
t1_in = block_size_in + 1

abbrev pub t3_in : ℕ
t3_in = t1_in + 1

abbrev pub asked_size : ℕ
asked_size = t3_in + 1

-- ---- an opening telegram: its repeats, then whether it waits, flies or T_E runs
abbrev pub trial_in : ℕ
trial_in = 1

abbrev pub trials_size : ℕ
trials_size = trial_in + which_size

-- ---- the connection test: an acknowledge waits, a test waits, tests unanswered, what is left of T_CTa
abbrev pub tests_in : ℕ
tests_in = 1

abbrev pub unanswered_in : ℕ
unanswered_in = tests_in + 1

abbrev pub left_in : ℕ
left_in = unanswered_in + 1

abbrev pub care_size : ℕ
care_size = left_in + word_size

-- ---- a block: telegrams taken, repeats on T1, asked again, the bytes left of the message
abbrev pub repeats_in : ℕ
repeats_in = 1

abbrev pub again_in : ℕ
again_in = repeats_in + 1

abbrev pub rest_in : ℕ
rest_in = again_in + 1

abbrev pub block_bytes : ℕ
block_bytes = rest_in + text_size

-- ---- what is sent: left of T_Wait, SN; then the message: which, left of T1, its block
abbrev pub sn_in : ℕ
sn_in = word_size

abbrev pub out_in : ℕ
out_in = sn_in + 1

abbrev pub block_in : ℕ
block_in = which_size

abbrev pub out_size : ℕ
out_size = block_in + block_bytes

abbrev pub talk_size : ℕ
talk_size = out_in + out_size

-- ---- what is received: the SN expected, the acknowledge that waits, the complete mark, the bytes
abbrev pub ack_in : ℕ
ack_in = 1

abbrev pub complete_in : ℕ
complete_in = ack_in + 1

abbrev pub bytes_in : ℕ
bytes_in = complete_in + 1

abbrev pub hear_size : ℕ
hear_size = bytes_in + text_size

-- ---- a standing connection: block size agreed, the partner's T3, the line, the test, what is sent, what is received
abbrev pub pace_in : ℕ
pace_in = 1

abbrev pub wire_in : ℕ
wire_in = pace_in + 1

abbrev pub care_in : ℕ
care_in = wire_in + which_size

abbrev pub talk_in : ℕ
talk_in = care_in + care_size

abbrev pub hear_in : ℕ
hear_in = talk_in + talk_size

abbrev pub standing_size : ℕ
standing_size = hear_in + hear_size

-- ---- the connection: its state, then
abbrev pub asked_at : ℕ
asked_at = 1

abbrev pub tx_id_at : ℕ
tx_id_at = asked_at + asked_size

abbrev pub trials_at : ℕ
trials_at = tx_id_at + word_size

abbrev pub exit_at : ℕ
exit_at = trials_at + trials_size

abbrev pub standing_at : ℕ
standing_at = exit_at + which_size

abbrev pub wire_at : ℕ
wire_at = standing_at + wire_in

abbrev pub care_at : ℕ
care_at = standing_at + care_in

abbrev pub talk_at : ℕ
talk_at = standing_at + talk_in

abbrev pub out_at : ℕ
out_at = talk_at + out_in

abbrev pub hear_at : ℕ
hear_at = standing_at + hear_in

abbrev pub link_size : ℕ
link_size = standing_at + standing_size
