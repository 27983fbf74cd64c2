-- The words in which a worked trace of one ISO 15765 channel is told: each event with the answer to it, records and buffers as bytes. The channel is
-- run alone, shut at first, with every definition open, so that a trace is proved by `refl`. Assumes nothing.
use mathlib.Core.Path.{◌≡◌}
use Prim.Native.Nat.{ℕ, zero, suc, ◌+◌, ◌-◌, ◌%◌}
use mathlib.Core.List.{List, [], ◌∷◌, ◌++◌, map}
use lib.ListN.{length, replicate}
use Rattle.codec.specs.Plain.{within, member}
use Rattle.codec.specs.Word.{word, word_at}
use Rattle.machine.specs.Codes.{code_of, three_rates, two_rates}
use Rattle.machine.specs.Message.{bit, width_flag, id_bytes, id_of, id_limit, takes, protocol_of, tx_flags_of, size_of, wide_of, data_of, clean, received}
use Rattle.machine.specs.Filter.{free, taken, has, any_slot}
use Rattle.machine.specs.Channel.{start_flow, take_next, lent, Answer, says, frame_code, read_code, unless_stopped, flat, get_in, set_in, set_all, get_all, list_code, is_flags}
use Rattle.machine.specs.Step.{Event, call, own_answer, clock_after}
pub use Rattle.machine.proofs.Traces.Words.{◌⇒◌, Story, done, gives, code, room, each}
use Rattle.iso.specs.Iso.{shut, no_talks, set_talks, set_config, set_written, set_flight, set_receiving, set_last, turned, turned_slot, turn_each, turn_at, news, news_at, extra_of, padded, shown_iso, shown_iso_all, shorter_iso, unless_iso, did, number_after, framed, single_frame, un_single, first_frame, next_frame, flow_frame, gap_of, arrive_iso, rx_start, arrived, tx_done, becomes, ended, low, on_single, on_first, on_next, staged, on_flow, on_consecutive, on_flow_of, transmitting, listening, heard, airborne, airborne_at, owner_in, flight_in, with_talks, on_iso_frame, later_stage, later_transfer, on_iso_advance, knows, talk_code, talk_of, on_start_talk, on_stop_talk, iso_message_code, carries, iso_write_code, iso_writing, on_iso_write, passing, giving, lowest, gives as given, answer_of, next_of, segment_of, start_of, starting, or_else, choice, showing, on_chosen, iso_taking, on_iso_take, whole_of, sent_stage, sent_of, done_of, landed_talks, messages_done, done_records, iso_sending, iso_reading, on_iso_read, on_iso_clear, on_iso_get, iso_set_to, on_iso_set, on_iso_get_list, on_iso_set_list, iso_connect_code, fresh_iso, is_ready, on_iso_connect, on_ready, on_iso_call, iso_notes, iso_noted, iso_noted_in_use}
use Rattle.iso.specs.Step.{iso_step, iso_answer, iso_after, iso_run, iso_answers}

-- ---- a trace

-- what the channel answers to events with a set of rates, shut at first, the clock at 0
unfoldable pub answered : List ℕ → List Event → List Answer
unfolding within member word word_at code_of three_rates two_rates bit width_flag id_bytes id_of id_limit takes protocol_of tx_flags_of size_of wide_of data_of clean received free taken has any_slot lent says frame_code read_code unless_stopped flat get_in set_in set_all get_all list_code is_flags own_answer clock_after no_talks set_talks set_config set_written set_flight set_receiving set_last turned turned_slot turn_each turn_at news news_at extra_of padded shown_iso shown_iso_all shorter_iso unless_iso did number_after framed single_frame un_single first_frame next_frame flow_frame gap_of arrive_iso rx_start arrived tx_done becomes ended low on_single on_first on_next staged on_flow on_consecutive on_flow_of transmitting listening heard airborne airborne_at owner_in flight_in with_talks on_iso_frame later_stage later_transfer on_iso_advance knows talk_code talk_of on_start_talk on_stop_talk iso_message_code carries iso_write_code iso_writing on_iso_write passing giving lowest given answer_of next_of segment_of start_of starting or_else choice showing on_chosen iso_taking on_iso_take whole_of sent_stage sent_of done_of landed_talks messages_done done_records iso_sending iso_reading on_iso_read on_iso_clear on_iso_get iso_set_to on_iso_set on_iso_get_list on_iso_set_list iso_connect_code fresh_iso is_ready on_iso_connect on_ready on_iso_call iso_notes iso_noted iso_noted_in_use iso_step iso_answer iso_after iso_run iso_answers
answered rates es = iso_answers rates (record { clock = 0; channel = shut }) es

-- with the scope's three rates the channel answers so to each event of the story: code, value and lent buffer
pub data Happens (s : Story) : Type 0 where
  as_told : answered three_rates (map (λ p. p.0) s) ≡ map (λ p. p.1) s → Happens s

-- with the two of now it does
pub data HappensNow (s : Story) : Type 0 where
  as_told_now : answered two_rates (map (λ p. p.0) s) ≡ map (λ p. p.1) s → HappensNow s

-- ---- records of 536 bytes

-- protocol, RxStatus, TxFlags, timestamp, size, extra index, then data and zeros to 512
abbrev pub raw536 : (protocol rx tx time size extra : ℕ) (bytes : List ℕ) → List ℕ
raw536 protocol rx tx time size extra bytes =
    word protocol ++ word rx ++ word tx ++ word time ++ word size ++ word extra ++ bytes ++ replicate (512 - length bytes) 0

-- a clean record to send, of TxFlags, identifier and data: so it is lent, and so take gives it
abbrev pub message6 : (tx id : ℕ) (data' : List ℕ) → List ℕ
message6 tx id data' = raw536 6 0 tx 0 (4 + length data') (4 + length data') (id_bytes id ++ data')

-- the same as a caller may lend it: its extra index isn't looked at
abbrev pub lent6 : (tx id : ℕ) (data' : List ℕ) → List ℕ
lent6 tx id data' = raw536 6 0 tx 0 (4 + length data') 0 (id_bytes id ++ data')

-- a record as read gives it, of RxStatus, timestamp, identifier and data
abbrev pub got6 : (rx time id : ℕ) (data' : List ℕ) → List ℕ
got6 rx time id data' = raw536 6 rx 0 time (4 + length data') (4 + length data') (id_bytes id ++ data')

-- RxStart (2, wide 258) and TxDone (9, wide 265): an identifier alone, extra index 0
abbrev pub told6 : (rx time id : ℕ) → List ℕ
told6 rx time id = raw536 6 rx 0 time 4 0 (id_bytes id)

-- ---- events

-- a filter of type 3, of TxFlags, pattern and flow
abbrev pub talk : (channel tx pattern flow : ℕ) → Event
talk k tx pattern flow = call k (start_flow 3 (message6 tx 0xFFFF_FFFF []) (message6 tx pattern []) (message6 tx flow []))

-- a take of channel 5 with room for one record, and its answer: a frame of this identifier and data, or that there is none
abbrev pub took : (id : ℕ) (data' : List ℕ) → Event × Answer
took id data' = call 5 (take_next (room 536)) ⇒ says 0x00 0 (message6 0 id data')

abbrev pub took_none : Event × Answer
took_none = call 5 (take_next (room 536)) ⇒ says 0x10 0 (room 536)

-- ---- bytes

-- n of them: from, from + 1, ..
abbrev pub count : (from n : ℕ) → List ℕ
count from zero = []
count from (suc n) = count from n ++ (from + n) ∷ []

-- and such that begin again after 250
abbrev pub wheel : (from n : ℕ) → List ℕ
wheel from n = map (λ i. i % 251) (count from n)
