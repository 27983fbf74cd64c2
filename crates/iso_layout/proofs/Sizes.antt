-- The numbers of docs/LAYOUT.md for the region of an ISO 15765 channel, checked: the size of each part by its code, and where each row of its tables
-- begins. Assumes nothing.
use mathlib.Core.Path.{◌≡◌, refl, ap}
use Prim.Native.Nat.{ℕ, suc, ◌+◌, ◌-◌}
use mathlib.Core.List.{List, [], ◌∷◌, ◌++◌}
use Rattle.codec.specs.Plain.{zeros}
use Rattle.codec.specs.Word.{word}
use Rattle.codec.specs.Code.{byte, word32, both, both_on, via, such, mark, many, slot, up_to}
use Rattle.machine.specs.Limits.{rx_status_in, tx_flags_in, timestamp_in, size_in, extra_index_in, data_in}
use Rattle.layout.specs.Memory.{config}
use Rattle.layout.specs.Sizes.{number_size, flags_at, rate_at, loopback_at}
use Rattle.layout.proofs.Sizes.{rows}
use Rattle.iso.specs.Limits.{most_messages, most_heard, most_payload, iso_data, iso_record_size}
use Rattle.iso.specs.Iso.{shut, ready, no_talks, fresh_iso}
use Rattle.iso_layout.specs.Sizes.{payload_size, count_in, time_in, left_in, gap_in, go_on_in, payload_in, transfer_size, pattern_in, flow_in, transfer_in, talk_size, talks_size, messages_size, iso_flight_size, heard_size, talks_at, messages_at, iso_flight_at, heard_at, iso_lost_at, iso_last_at, iso_region_size}
use Rattle.iso_layout.specs.Region.{rec536, message_cell, frame_cell, heard_cell, payload508, transfer_plain, transfer_code, talk_cell, talks_code, flight_code, heard_part, iso_last_part, iso_rest, ready_part, iso_region}

-- ---- the tables of docs/LAYOUT.md, row by row

-- A REGION: the open mark, flags, rate, loopback mark, two conversations, the written messages with their count, the flight with its mark and what it
-- belongs to, the queue with its count, the lost mark, the last code
abbrev pub iso_region_names : List ℕ
iso_region_names =
    0 ∷ flags_at ∷ rate_at ∷ loopback_at ∷ talks_at ∷ (talks_at + talk_size) ∷ messages_at ∷ (messages_at + 1) ∷ iso_flight_at ∷ (iso_flight_at + 1) ∷ (iso_flight_at + 2)
    ∷ heard_at ∷ (heard_at + 1) ∷ iso_lost_at ∷ iso_last_at ∷ iso_region_size ∷ []

pub iso_region_fields : (flags : ℕ)
    → rows 0
    (mark.size ∷ word32.size ∷ word32.size ∷ mark.size ∷ (slot (talk_cell flags)).size ∷ (slot (talk_cell flags)).size
    ∷ 1 ∷ (many most_messages (message_cell flags)).size ∷ 1 ∷ byte.size ∷ (frame_cell flags).size ∷ 1 ∷ (many most_heard (heard_cell flags)).size ∷ mark.size ∷ iso_last_part.size ∷ [])
    ≡ iso_region_names
unfolding talk_cell transfer_code transfer_plain payload508 message_cell frame_cell heard_cell rec536 iso_last_part mark slot many via such both word32 byte
iso_region_fields flags = refl

pub iso_region_numbers : iso_region_names
    ≡ 0 ∷ 1 ∷ 5 ∷ 9 ∷ 10 ∷ 550 ∷ 1090 ∷ 1091 ∷ 3235 ∷ 3236 ∷ 3237 ∷ 3773 ∷ 3774 ∷ 8062 ∷ 8063 ∷ 8064 ∷ []
iso_region_numbers = refl

-- A CONVERSATION: the taken mark, the width mark, pattern, flow; of its transfer the kind, the length or the bytes taken, the time, the frames left,
-- STmin, the go-on mark; the payload with its count
abbrev pub talk_names : List ℕ
talk_names =
    0 ∷ 1 ∷ pattern_in ∷ flow_in ∷ transfer_in ∷ (transfer_in + count_in) ∷ (transfer_in + time_in) ∷ (transfer_in + left_in) ∷ (transfer_in + gap_in) ∷ (transfer_in + go_on_in)
    ∷ (transfer_in + payload_in) ∷ (transfer_in + payload_in + number_size) ∷ talk_size ∷ []

pub talk_fields : rows 0
    (1 ∷ mark.size ∷ word32.size ∷ word32.size ∷ byte.size ∷ word32.size ∷ word32.size ∷ word32.size ∷ word32.size ∷ mark.size
    ∷ word32.size ∷ (many most_payload byte).size ∷ [])
    ≡ talk_names
unfolding mark many via such word32 byte
talk_fields = refl

pub talk_numbers : talk_names ≡ 0 ∷ 1 ∷ 2 ∷ 6 ∷ 10 ∷ 11 ∷ 15 ∷ 19 ∷ 23 ∷ 27 ∷ 28 ∷ 32 ∷ 540 ∷ []
talk_numbers = refl

-- A RECORD: protocol, RxStatus, TxFlags, timestamp, data size, extra index, data
pub iso_record_fields : rows 0 (word32.size ∷ word32.size ∷ word32.size ∷ word32.size ∷ word32.size ∷ word32.size ∷ (many iso_data byte).size ∷ [])
    ≡ 0 ∷ rx_status_in ∷ tx_flags_in ∷ timestamp_in ∷ size_in ∷ extra_index_in ∷ data_in ∷ iso_record_size ∷ []
unfolding many word32 byte
iso_record_fields = refl

-- ---- the size of each part, by its code

pub rec536_size : rec536.size ≡ iso_record_size
unfolding rec536 via such both many word32 byte
rec536_size = refl

pub payload_size_law : payload508.size ≡ payload_size
unfolding payload508 via such both many word32 byte
payload_size_law = refl

pub transfer_size_law : transfer_code.size ≡ transfer_size
unfolding transfer_code transfer_plain payload508 mark via such both many word32 byte
transfer_size_law = refl

module _ (flags : ℕ) where
  pub message_size : (message_cell flags).size ≡ iso_record_size
  unfolding message_cell rec536 via such both many word32 byte
  message_size = refl

  pub frame_size : (frame_cell flags).size ≡ iso_record_size
  unfolding frame_cell rec536 via such both many word32 byte
  frame_size = refl

  pub heard_size_law : (heard_cell flags).size ≡ iso_record_size
  unfolding heard_cell rec536 via such both many word32 byte
  heard_size_law = refl

  pub slot_size : (slot (talk_cell flags)).size ≡ talk_size
  unfolding talk_cell transfer_code transfer_plain payload508 mark via such both many slot word32 byte
  slot_size = refl

  pub talks_size_law : (talks_code flags).size ≡ talks_size
  unfolding talks_code talk_cell transfer_code transfer_plain payload508 mark via such both many slot word32 byte
  talks_size_law = refl

  pub messages_size_law : (up_to most_messages (message_cell flags)).size ≡ messages_size
  unfolding message_cell rec536 via such both many up_to word32 byte
  messages_size_law = refl

  pub iso_flight_size_law : (slot (flight_code flags)).size ≡ iso_flight_size
  unfolding flight_code frame_cell rec536 via such both many slot word32 byte
  iso_flight_size_law = refl

  pub heards_size : (up_to most_heard (heard_cell flags)).size ≡ heard_size
  unfolding heard_cell rec536 via such both many up_to word32 byte
  heards_size = refl

  pub heard_part_size : (heard_part flags).size ≡ heard_size + 1
  unfolding heard_part heard_cell rec536 mark via such both many up_to word32 byte
  heard_part_size = refl

pub iso_last_size : iso_last_part.size ≡ 1
unfolding iso_last_part such byte
iso_last_size = refl

-- all that lies behind the open mark
pub parts_size : suc (both_on (λ c. c.flags) config iso_rest).size ≡ iso_region_size
unfolding iso_rest both_on config heard_part iso_last_part flight_code talks_code talk_cell transfer_code transfer_plain payload508 heard_cell frame_cell message_cell rec536 mark via such both many slot up_to word32 byte
parts_size = refl

pub ready_size : ready_part.size ≡ iso_last_at
unfolding ready_part iso_rest both_on config heard_part iso_last_part flight_code talks_code talk_cell transfer_code transfer_plain payload508 heard_cell frame_cell message_cell rec536 mark via such both many slot up_to word32 byte
ready_size = refl

pub iso_region_size_law : iso_region.size ≡ iso_region_size
unfolding iso_region via slot
iso_region_size_law = ap (λ (n : ℕ). 1 + n) ready_size

-- ---- the bytes of a closed channel and of a fresh one

-- a closed channel's region is zeros
pub shut_zeros : iso_region.put shut ≡ zeros iso_region_size
unfolding iso_region via slot
shut_zeros = ap {B = List ℕ} (λ (n : ℕ). 0 ∷ zeros n) ready_size

-- a fresh channel's region: the mark, the flags, the rate, zeros
pub fresh_iso_is : (flags rate : ℕ) → iso_region.put (ready (fresh_iso flags rate)) ≡ 1 ∷ (word flags ++ (word rate ++ zeros (iso_region_size - loopback_at)))
unfolding fresh_iso no_talks iso_region ready_part iso_rest both_on config heard_part iso_last_part flight_code talks_code talk_cell transfer_code transfer_plain payload508 heard_cell frame_cell message_cell rec536 mark via such both many slot up_to word32 byte word
fresh_iso_is flags rate = refl
