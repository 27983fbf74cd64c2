-- The words in which a worked trace of the whole box is told: each event with the box's answer to it. The box is run from power-on with every definition
-- open, so that a trace is proved by `refl`. What one channel does by itself is told in the traces of `machine` and of `iso`. Assumes nothing.
use mathlib.Core.Path.{◌≡◌}
use Prim.Native.Nat.{ℕ}
use mathlib.Core.List.{List, map}
use Rattle.codec.specs.Plain.{within, member, all_below}
use Rattle.codec.specs.Word.{word, word_at}
use Rattle.machine.specs.Codes.{code_of, three_rates}
use Rattle.machine.specs.Message.{bit, width_flag, id_bytes, id_of, id_limit, takes, twelve, shown, shown_all, protocol_of, tx_flags_of, size_of, wide_of, data_of, message_code, clean, received}
use Rattle.machine.specs.Filter.{none_yet, free, taken, has, any_slot, matches, hits, passes}
use Rattle.machine.specs.Early.{early_number}
use Rattle.machine.specs.Channel.{Answer, with_config, with_filters, with_sending, with_receiving, with_last, lent, says, unless, done_with, shorter, filter_code, filter_of, on_start_filter, on_stop_filter, arrive, frame_code, offered, on_frame, read_code, reading, on_read, write_code, unless_stopped, writing, on_write, periodic_code, periodic_of, on_start_periodic, on_stop_periodic, period, later, later_slot, on_advance, next_written, behind, calm, next, giving, chosen, taking, on_take, landed, sending, on_sent, on_clear, flat, get_in, set_in, set_all, get_all, on_get, set_to, on_set, list_code, on_get_list, on_set_list, is_flags, connect_code, fresh, is_open, on_connect, on_open, on_call, notes, noted, noted_in_use, with_link, heard_by, telegram, may_go, chosen_or, link_code, on_link_open, on_link_send, on_link_receive, on_link_end, on_raw_call, on_decide, decided, raw_lent, is_raw_flags, listens}
use Rattle.link.specs.Connection.{micros, with_wire, with_talk, with_hear, with_care, anew, exit, leave, telegrams, block_of, next_data, took_to, new_block, ours, set_up_of, offering, offer_data, offer_acknowledge, offer_on, offer_trial, offer_exit, offer, data_sent, landed_on, trial_sent, exit_sent, was_sent, tried, out_later, care_later, wire_later, link_later, exit_later, passing as link_passing, replied, joined, next_block, acknowledged, breaking, broken, heard_data, answering, data_heard, told, hears, asked_fits, state_of, on_link, under_way, busy, whole, begin, fetched, ended as link_ended}
use Rattle.telegram.specs.Bits.{only_if, are_bytes}
use Rattle.telegram.specs.Telegram.{opening_fits, fields_fit, opening_bytes, id_at, opening_of, read_opening, unused_time, own_connection, fits, on_wire, connection_of, read_channel, time_of}
use Rattle.machine.specs.Step.{Event, chan_step, clock_after}
use Rattle.machine.specs.Step as raw_step
use Rattle.iso.specs.Iso.{no_talks, set_talks, set_config, set_written, set_flight, set_receiving, set_last, turned, turned_slot, turn_each, turn_at, news, news_at, extra_of, padded, shown_iso, shown_iso_all, shorter_iso, unless_iso, did, number_after, framed, single_frame, un_single, first_frame, next_frame, flow_frame, gap_of, arrive_iso, rx_start, arrived, tx_done, becomes, ended, low, on_single, on_first, on_next, staged, on_flow, on_consecutive, on_flow_of, transmitting, listening, heard, airborne, airborne_at, owner_in, flight_in, with_talks, on_iso_frame, later_stage, later_transfer, on_iso_advance, knows, talk_code, talk_of, on_start_talk, on_stop_talk, iso_message_code, carries, iso_write_code, iso_writing, on_iso_write, passing, giving as iso_giving, lowest, gives as given, answer_of, next_of, segment_of, start_of, starting, or_else, choice, showing, on_chosen, iso_taking, on_iso_take, whole_of, sent_stage, sent_of, done_of, landed_talks, messages_done, done_records, iso_sending, iso_reading, on_iso_read, on_iso_clear, on_iso_get, iso_set_to, on_iso_set, on_iso_get_list, on_iso_set_list, iso_connect_code, fresh_iso, is_ready, on_iso_connect, on_ready, on_iso_call, iso_notes, iso_noted, iso_noted_in_use}
use Rattle.iso.specs.Step.{iso_step}
use Rattle.whole.specs.Device.{power_on, chan_at, iso_at, any_at, line_of, protocol_at, nameable, touches, connected, numbered, speaker, own_answer, any_step, moved, after, answer_by, answer, step, run, answers}
pub use Rattle.machine.proofs.Traces.Words.{◌⇒◌, Story, done, gives, code, room, message, got, everything}
pub use Rattle.iso.proofs.Traces.Words.{message6, got6, told6, talk}

-- what the box answers to events from power-on, with the scope's three rates
unfoldable pub answered : List Event → List Answer
unfolding within member all_below word word_at code_of three_rates bit width_flag id_bytes id_of id_limit takes twelve shown shown_all protocol_of tx_flags_of size_of wide_of data_of message_code clean received none_yet free taken has any_slot matches hits passes with_config with_filters with_sending with_receiving with_last lent says unless done_with shorter filter_code filter_of on_start_filter on_stop_filter arrive frame_code offered on_frame read_code reading on_read write_code unless_stopped writing on_write periodic_code periodic_of on_start_periodic on_stop_periodic period later later_slot on_advance next_written behind calm next giving chosen taking on_take landed sending on_sent on_clear flat get_in set_in set_all get_all on_get set_to on_set list_code on_get_list on_set_list is_flags is_raw_flags listens connect_code fresh is_open on_connect on_open on_call notes noted noted_in_use chan_step clock_after raw_step.own_answer no_talks set_talks set_config set_written set_flight set_receiving set_last turned turned_slot turn_each turn_at news news_at extra_of padded shown_iso shown_iso_all shorter_iso unless_iso did number_after framed single_frame un_single first_frame next_frame flow_frame gap_of arrive_iso rx_start arrived tx_done becomes ended low on_single on_first on_next staged on_flow on_consecutive on_flow_of transmitting listening heard airborne airborne_at owner_in flight_in with_talks on_iso_frame later_stage later_transfer on_iso_advance knows talk_code talk_of on_start_talk on_stop_talk iso_message_code carries iso_write_code iso_writing on_iso_write passing iso_giving lowest given answer_of next_of segment_of start_of starting or_else choice showing on_chosen iso_taking on_iso_take whole_of sent_stage sent_of done_of landed_talks messages_done done_records iso_sending iso_reading on_iso_read on_iso_clear on_iso_get iso_set_to on_iso_set on_iso_get_list on_iso_set_list iso_connect_code fresh_iso is_ready on_iso_connect on_ready on_iso_call iso_notes iso_noted iso_noted_in_use iso_step power_on chan_at iso_at any_at line_of protocol_at nameable touches connected numbered speaker own_answer any_step moved after answer_by answer step run answers with_link heard_by telegram may_go chosen_or link_code on_link_open on_link_send on_link_receive on_link_end on_raw_call on_decide raw_lent decided early_number micros with_wire with_talk with_hear with_care anew exit leave telegrams block_of next_data took_to new_block ours set_up_of offering offer_data offer_acknowledge offer_on offer_trial offer_exit offer data_sent landed_on trial_sent exit_sent was_sent tried out_later care_later wire_later link_later exit_later link_passing replied joined next_block acknowledged breaking broken heard_data answering data_heard told hears asked_fits state_of on_link under_way busy whole begin fetched link_ended only_if are_bytes opening_fits fields_fit opening_bytes id_at opening_of read_opening unused_time own_connection fits on_wire connection_of read_channel time_of
answered es = answers three_rates power_on es

-- the box answers so to each event of the story: code, value and lent buffer
pub data Happens (s : Story) : Type 0 where
  as_told : answered (map (λ p. p.0) s) ≡ map (λ p. p.1) s → Happens s
