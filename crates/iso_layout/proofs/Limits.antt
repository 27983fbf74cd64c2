-- What a valid region of an ISO 15765 channel holds, in plain numbers: every stored number is within its limit, and no record, conversation or flight
-- has a field that is never stored there. Assumes nothing.
use mathlib.Core.Path.{◌≡◌, sym, ◌∙◌, subst}
use Prim.Native.Nat.{ℕ, ◌≤◌}
use mathlib.Core.List.{List}
use lib.ListN.{length}
use lib.Dec.{T}
use Rattle.codec.specs.Plain.{member}
use Rattle.codec.specs.Code.{slot}
use Rattle.codec.proofs.Lists.{Each}
use Rattle.codec.proofs.Many.{up_to_count, up_to_each, many_count, many_each}
use Rattle.machine.specs.Codes.{three_rates}
use Rattle.machine.specs.Channel.{is_flags}
use Rattle.iso.specs.Limits.{most_talks, most_messages, most_heard, iso_data}
use Rattle.iso.specs.Iso.{OpenIso, ready, iso_codes}
use Rattle.iso_layout.specs.Sizes.{iso_region_size}
use Rattle.iso_layout.specs.Region.{message_cell, heard_cell, talk_cell, talks_code, flight_code, iso_region}
use Rattle.layout.proofs.Held.{config_flags, config_rate, plain_flags}
use Rattle.layout.proofs.Limits.{If, each_of, if_taken}
use Rattle.iso_layout.proofs.Sizes.{iso_region_size_law}
use Rattle.iso_layout.proofs.Lawful.{iso_region_lawful}
use Rattle.iso_layout.proofs.Held.{ToSend, sending_sound, ToRead, reading_sound, TalkOk, talk_sound, last_sound}
use Rattle.iso_layout.proofs.Good.{FineIso, fli, GoodIso, iso_good, good_talks}
use Rattle.iso_layout.proofs.Taking.{FlightOk, flight_sound}

-- each conversation, message, frame and record by itself; how conversations and flight hang together is `Linked`
pub record Limits (o : OpenIso) : Type 0 where
  pub flags : T (is_flags (fli o))
  pub rate : T (member o.config.rate three_rates)
  pub two_talks_law : length o.talks ≡ most_talks
  pub each_talk : Each (If (TalkOk (fli o))) o.talks
  pub message_count : length o.written ≤ most_messages
  pub each_message : Each (ToSend (fli o) iso_data) o.written
  pub in_flight : If (FlightOk (fli o)) o.flight
  pub heard_count : length o.receiving.queue ≤ most_heard
  pub each_heard : Each (ToRead (fli o)) o.receiving.queue
  pub last_code : T (member o.last iso_codes)

pub good_limits : (o : OpenIso) → GoodIso o → Limits o
unfolding talks_code message_cell slot
good_limits o g =
    let k : ℕ = fli o in
    let ts = good_talks o g in
    record {
      flags = plain_flags k (config_flags o.config g.config_ok) g.no_listener;
      rate = config_rate o.config g.config_ok;
      two_talks_law = many_count most_talks (slot (talk_cell k)) o.talks ts;
      each_talk = each_of _ _ (if_taken (slot (talk_cell k)).ok (TalkOk k) (talk_sound k)) o.talks (many_each most_talks (slot (talk_cell k)) o.talks ts);
      message_count = up_to_count _ (message_cell k) o.written g.written_ok;
      each_message = each_of (message_cell k).ok _ (sending_sound k iso_data) o.written (up_to_each _ (message_cell k) o.written g.written_ok);
      in_flight = if_taken (slot (flight_code k)).ok (FlightOk k) (flight_sound k) o.flight g.flight_ok;
      heard_count = up_to_count _ (heard_cell k) o.receiving.queue g.queue_ok;
      each_heard = each_of (heard_cell k).ok _ (reading_sound k) o.receiving.queue (up_to_each _ (heard_cell k) o.receiving.queue g.queue_ok);
      last_code = last_sound o.last g.last_ok;
    }

-- EVERY OPEN CHANNEL IN A VALID REGION IS WITHIN THE LIMITS
pub region_limits : (r : List ℕ) → length r ≡ iso_region_size → T (iso_region.valid r) → (o : OpenIso) → iso_region.get r ≡ ready o → Limits o
region_limits r long v o e = good_limits o (iso_good o (subst FineIso e (iso_region_lawful.ok_get r (long ∙ sym iso_region_size_law) v)))
