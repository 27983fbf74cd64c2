-- The places of an ISO 15765 region: its parts, and the parts of a conversation. Assumes nothing.
use mathlib.Core.Path.{◌≡◌, refl, ap, ap₂}
use Prim.Native.Nat.{ℕ, ◌+◌, ◌*◌, ◌<◌}
use native.Mathlib.Omega.{arith}
use mathlib.Core.Option.{Option, none, some}
use mathlib.Core.List.{List, ◌++◌}
use lib.ListN.{get_or, set}
use lib.Dec.{T}
use Rattle.codec.specs.Code.{Code, both, both_on, via, such, mark, many, slot, up_to}
use Rattle.codec.proofs.Many.{many_count, many_each, slot_lawful, up_to_lawful}
use Rattle.codec.proofs.Place.{Place, inside, at, in_first, in_second, in_on_first, in_on_second, in_such, in_via, in_slot, in_many}
use Rattle.machine.specs.Message.{Rec}
use Rattle.machine.specs.Filter.{Slots}
use Rattle.machine.specs.Channel.{Receiving}
use Rattle.iso.specs.Iso.{Talk, Flight, OpenIso, ready, set_talks, set_config, set_written, set_flight, set_receiving, set_last}
use Rattle.layout.specs.Memory.{config}
use Rattle.iso_layout.specs.Region.{message_cell, frame_cell, heard_cell, talk_cell, talks_code, flight_code, heard_parts, heard_back, heard_part, iso_last_part, IsoRest, ready_parts, ready_back, iso_rest, linked, ready_part, iso_chan_parts, iso_chan_back, iso_region}
use Rattle.layout.proofs.Memory.{config_lawful}
use Rattle.iso_layout.proofs.Lawful.{iso_chan_there, talk_lawful, talks_lawful, message_lawful, flight_lawful, heard_lawful, heard_part_lawful}
use Rattle.layout.proofs.Sizes.{config_size_law}
use Rattle.iso.specs.Limits.{most_talks, most_messages, most_heard}
use Rattle.iso_layout.specs.Sizes.{talk_size, talks_at, messages_at, iso_flight_at, heard_at, iso_lost_at, iso_last_at}
use Rattle.iso_layout.proofs.Sizes.{slot_size, talks_size_law, messages_size_law, iso_flight_size_law, heards_size, heard_part_size}
use Rattle.codec.proofs.Many.{each_same, store_same}
use Rattle.iso_layout.proofs.Good.{fli}

pub ready_place : (o : OpenIso) → Place iso_region ready_part (ready o) 1 o (λ o'. ready o')
unfolding iso_region
ready_place o = inside (in_via iso_chan_parts iso_chan_back (slot ready_part) (ready o) iso_chan_there) (in_slot ready_part o)

-- the bytes behind the configuration do not depend on its flags
slot_same : (j k : ℕ) (x : Option Talk) → (slot (talk_cell j)).put x ≡ (slot (talk_cell k)).put x
unfolding slot talk_cell such
slot_same j k none = refl
slot_same j k (some c) = refl

flight_same : (j k : ℕ) (x : Option Flight) → (slot (flight_code j)).put x ≡ (slot (flight_code k)).put x
unfolding slot flight_code frame_cell via such both
flight_same j k none = refl
flight_same j k (some c) = refl

talk_same : (j k : ℕ) (ts : Slots Talk) → (talks_code j).put ts ≡ (talks_code k).put ts
unfolding talks_code many talk_cell such slot
talk_same j k ts = each_same (slot (talk_cell j)) (slot (talk_cell k)) refl (slot_same j k) ts

message_same : (j k : ℕ) (ws : List Rec) → (up_to most_messages (message_cell j)).put ws ≡ (up_to most_messages (message_cell k)).put ws
unfolding message_cell such
message_same j k ws = store_same (message_cell j) (message_cell k) refl (λ r. refl) most_messages ws

heard_same : (j k : ℕ) (r : Receiving) → (heard_part j).put r ≡ (heard_part k).put r
unfolding heard_part heard_cell via such both
heard_same j k r = ap (λ (a : List ℕ). a ++ mark.put r.lost) (store_same (heard_cell j) (heard_cell k) refl (λ r. refl) most_heard r.queue)

pub iso_rest_put : (j k : ℕ) (y : IsoRest) → (iso_rest j).put y ≡ (iso_rest k).put y
unfolding iso_rest both
iso_rest_put j k y =
    ap₂ (λ (a b : List ℕ). a ++ b) (talk_same j k y.0)
    (ap₂ (λ (a b : List ℕ). a ++ b) (message_same j k y.1.0) (ap₂ (λ (a b : List ℕ). a ++ b) (flight_same j k y.1.1.0) (ap (λ (a : List ℕ). a ++ iso_last_part.put y.1.1.1.1) (heard_same j k y.1.1.1.0))))

-- ---- the parts of an open channel, in its region

abbrev Late : ℕ → Code (Receiving × ℕ)
Late k = both (heard_part k) iso_last_part

abbrev Heards : ℕ → Code (Option Flight × (Receiving × ℕ))
Heards k = both (slot (flight_code k)) (Late k)

abbrev Messages : ℕ → Code (List Rec × (Option Flight × (Receiving × ℕ)))
Messages k = both (up_to most_messages (message_cell k)) (Heards k)

module _ (o : OpenIso) where
  parts_place : Place iso_region (both_on (λ c. c.flags) config iso_rest) (ready o) 1 (ready_parts o) (λ y. ready (ready_back y))
  unfolding ready_part
  parts_place =
      inside (ready_place o)
      (inside (in_such linked (via ready_parts ready_back (both_on (λ c. c.flags) config iso_rest)) o) (in_via ready_parts ready_back (both_on (λ c. c.flags) config iso_rest) o (λ p. refl)))

  -- flags at 1, rate at 5, loopback at 9, as in a raw region
  pub iso_config_place : Place iso_region config (ready o) 1 o.config (λ c. ready (set_config o c))
  unfolding set_config
  iso_config_place = inside parts_place (in_on_first (λ c. c.flags) config iso_rest (ready_parts o) iso_rest_put)

  module _ (config_ok : T (config.ok o.config)) where
    rest_place : Place iso_region (iso_rest (fli o)) (ready o) talks_at (ready_parts o).1 (λ y. ready (ready_back (o.config, y)))
    rest_place =
        at (ap (λ (n : ℕ). 1 + n) config_size_law)
        (inside parts_place (in_on_second (λ c. c.flags) config iso_rest (ready_parts o) (config_lawful.long o.config config_ok)))

    pub talks_place : Place iso_region (talks_code (fli o)) (ready o) talks_at o.talks (λ ts. ready (set_talks o ts))
    unfolding set_talks iso_rest
    talks_place = inside rest_place (in_first (talks_code (fli o)) (Messages (fli o)) (ready_parts o).1)

    module _ (talks_ok : T ((talks_code (fli o)).ok o.talks)) where
      -- conversation k at 10 + 540 k: taken mark, width mark, pattern, flow, transfer
      pub talk_place : (k : ℕ) → k < most_talks → Place iso_region (slot (talk_cell (fli o))) (ready o) (talks_at + k * talk_size) (get_or o.talks k none) (λ x. ready (set_talks o (set o.talks k x)))
      unfolding talks_code
      talk_place k h =
          at (ap (λ (n : ℕ). talks_at + k * n) (slot_size (fli o)))
          (inside talks_place
          (in_many (slot_lawful (talk_lawful (fli o))) none most_talks o.talks k (many_each most_talks (slot (talk_cell (fli o))) o.talks talks_ok) (omega (arith, many_count most_talks (slot (talk_cell (fli o))) o.talks talks_ok))))

      behind_place : Place iso_region (Messages (fli o)) (ready o) messages_at (ready_parts o).1.1 (λ y. ready (ready_back (o.config, (o.talks, y))))
      unfolding iso_rest
      behind_place =
          at (ap (λ (n : ℕ). talks_at + n) (talks_size_law (fli o)))
          (inside rest_place (in_second (talks_code (fli o)) (Messages (fli o)) (ready_parts o).1 ((talks_lawful (fli o)).long o.talks talks_ok)))

      pub messages_place : Place iso_region (up_to most_messages (message_cell (fli o))) (ready o) messages_at o.written (λ ws. ready (set_written o ws))
      unfolding set_written
      messages_place = inside behind_place (in_first (up_to most_messages (message_cell (fli o))) (Heards (fli o)) (ready_parts o).1.1)

      module _ (written_ok : T ((up_to most_messages (message_cell (fli o))).ok o.written)) where
        late_place : Place iso_region (Heards (fli o)) (ready o) iso_flight_at (ready_parts o).1.1.1 (λ y. ready (ready_back (o.config, (o.talks, (o.written, y)))))
        late_place =
            at (ap (λ (n : ℕ). messages_at + n) (messages_size_law (fli o)))
            (inside behind_place (in_second (up_to most_messages (message_cell (fli o))) (Heards (fli o)) (ready_parts o).1.1 ((up_to_lawful (message_lawful (fli o)) most_messages).long o.written written_ok)))

        pub flight_place : Place iso_region (slot (flight_code (fli o))) (ready o) iso_flight_at o.flight (λ f. ready (set_flight o f))
        unfolding set_flight
        flight_place = inside late_place (in_first (slot (flight_code (fli o))) (Late (fli o)) (ready_parts o).1.1.1)

        last_two_place : T ((slot (flight_code (fli o))).ok o.flight)
            → Place iso_region (Late (fli o)) (ready o) heard_at (ready_parts o).1.1.1.1 (λ y. ready (ready_back (o.config, (o.talks, (o.written, (o.flight, y))))))
        last_two_place t =
            at (ap (λ (n : ℕ). iso_flight_at + n) (iso_flight_size_law (fli o)))
            (inside late_place (in_second (slot (flight_code (fli o))) (Late (fli o)) (ready_parts o).1.1.1 ((slot_lawful (flight_lawful (fli o))).long o.flight t)))

        pub receiving_place : T ((slot (flight_code (fli o))).ok o.flight) → Place iso_region (heard_part (fli o)) (ready o) heard_at o.receiving (λ r. ready (set_receiving o r))
        unfolding set_receiving
        receiving_place t = inside (last_two_place t) (in_first (heard_part (fli o)) iso_last_part (ready_parts o).1.1.1.1)

        pub last_place : T ((slot (flight_code (fli o))).ok o.flight) → T ((heard_part (fli o)).ok o.receiving)
            → Place iso_region iso_last_part (ready o) iso_last_at o.last (λ k. ready (set_last o k))
        unfolding set_last
        last_place t u =
            at (ap (λ (n : ℕ). heard_at + n) (heard_part_size (fli o)))
            (inside (last_two_place t) (in_second (heard_part (fli o)) iso_last_part (ready_parts o).1.1.1.1 ((heard_part_lawful (fli o)).long o.receiving u)))

        pub queue_place : T ((slot (flight_code (fli o))).ok o.flight)
            → Place iso_region (up_to most_heard (heard_cell (fli o))) (ready o) heard_at o.receiving.queue (λ q. ready (set_receiving o (record { queue = q; lost = o.receiving.lost })))
        unfolding heard_part
        queue_place t =
            inside (receiving_place t)
            (inside (in_via heard_parts heard_back (both (up_to most_heard (heard_cell (fli o))) mark) o.receiving (λ p. refl)) (in_first (up_to most_heard (heard_cell (fli o))) mark (heard_parts o.receiving)))

        pub lost_place : T ((slot (flight_code (fli o))).ok o.flight) → T ((up_to most_heard (heard_cell (fli o))).ok o.receiving.queue)
            → Place iso_region mark (ready o) iso_lost_at o.receiving.lost (λ l. ready (set_receiving o (record { queue = o.receiving.queue; lost = l })))
        unfolding heard_part
        lost_place t u =
            at (ap (λ (n : ℕ). heard_at + (0 + n)) (heards_size (fli o)))
            (inside (receiving_place t)
            (inside (in_via heard_parts heard_back (both (up_to most_heard (heard_cell (fli o))) mark) o.receiving (λ p. refl))
            (in_second (up_to most_heard (heard_cell (fli o))) mark (heard_parts o.receiving) ((up_to_lawful (heard_lawful (fli o)) most_heard).long o.receiving.queue u))))
