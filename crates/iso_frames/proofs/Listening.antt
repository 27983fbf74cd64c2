-- The region in which a conversation hears a frame: its place, then the queue, then the flight. Assumes nothing.
use Rattle.std.specs.Prelude.{if◌then◌else◌}
use mathlib.Core.Path.{◌≡◌, refl, sym, ap, ap₂, ◌∙◌, subst}
use Prim.Native.Nat.{ℕ, ◌+◌, ◌*◌, ◌-◌, ◌^◌, ◌≤◌, ◌<◌}
use mathlib.Core.Bool.{Bool, true, ◌&&◌, beq}
use mathlib.Core.Option.{Option, none, some}
use mathlib.Core.List.{List, []}
use lib.ListN.{length, get_or, set, take, drop, length-set}
use lib.Dec.{T, eqb, eqb→eq, eqb_refl}
use borrow.Rule.Slice.PartMut.{put_mid}
use Rattle.codec.specs.Plain.{all, is_byte}
use Rattle.codec.specs.Code.{slot, up_to, both, both_on, via, mark}
use Rattle.codec.proofs.Tests.{left, right, join, T_true, true_T}
use Rattle.codec.proofs.Lists.{all_at, all_set}
use Rattle.codec.proofs.Lawful.{mark_ok}
use Rattle.codec.proofs.Many.{many_make, many_count, many_each}
use Rattle.codec.proofs.Part.{Part}
use Rattle.machine.specs.Message.{Rec}
use Rattle.machine.specs.Limits.{most_bytes}
use Rattle.machine.specs.Channel.{Receiving}
use Rattle.iso.specs.Limits.{most_talks, most_heard}
use Rattle.iso.specs.Iso.{Transfer, Talk, Heard, OpenIso, ready, becomes, listening, heard, turned, turned_slot, turn_at, news_at, arrive_iso, set_talks, set_flight, set_receiving, with_talks}
use Rattle.iso_layout.specs.Sizes.{talk_size, talks_at, heard_size, heard_at}
use Rattle.iso_layout.specs.Region.{talk_cell, talks_code, heard_cell, heard_part, iso_rest, iso_region}
use Rattle.iso_layout.specs.Promise.{IsoOpened}
use Rattle.iso_layout.proofs.Held.{TalkOk, talk_make, talk_sound}
use Rattle.iso_layout.proofs.Good.{fli}
use Rattle.iso_layout.proofs.Hearing.{HeardOk, heard_ok, turned_ok, arrive_ok}
use Rattle.iso_layout.proofs.Region.{ready_of, good, Lies, lies, talk_part, receiving_part_law}
use Rattle.talk_head.proofs.Taken.{vacant}
use Rattle.iso_flights.specs.Lain.{Lain, disowned}
use Rattle.iso_flights.proofs.Flights.{part_size}
use Rattle.iso_queue.proofs.Laws.{count_few}
use Rattle.talk_telling.specs.declared.Told.{Told}
use Rattle.talk_telling.specs.Telling.{told}
use Rattle.talk_frames.specs.Hearing.{Talking, Hears}
use Rattle.iso_frames.specs.Frame.{concerned, hears_at}
use Rattle.iso_frames.proofs.One.{bool_same, bool_refl}

-- ---- the conversation that a frame concerns

pub record Spoken (wide : Bool) (id : ℕ) (x : Option Talk) : Type 0 where
  pub talk : Talk
  pub is : x ≡ some talk
  pub width : talk.wide ≡ wide
  pub pattern : talk.pattern ≡ id

spoken : (wide : Bool) (id : ℕ) (x : Option Talk) → T (concerned wide id x) → Spoken wide id x
unfolding concerned
spoken wide id none t = absurd t
spoken wide id (some c) t =
    record {
      talk = c;
      is = refl;
      width = sym (bool_same wide c.wide (T_true (beq wide c.wide) (left (beq wide c.wide) (eqb id c.pattern) t)));
      pattern = sym (eqb→eq id c.pattern (right (beq wide c.wide) (eqb id c.pattern) t));
    }

-- ---- what it becomes can be held, and what it tells

module _ (flags clock : ℕ) (small : clock < 2 ^ 32) (b : List ℕ) (few : length b ≤ most_bytes) (bytes : T (all is_byte b)) where
  own_frame : (c : Talk) → heard clock c.wide c.pattern b c ≡ listening clock c b
  unfolding heard
  own_frame c =
      ap (λ (g : Bool). if g then listening clock c b else becomes c.transfer [])
      (T_true (beq c.wide c.wide && eqb c.pattern c.pattern) (join (beq c.wide c.wide) (eqb c.pattern c.pattern) (bool_refl c.wide) (eqb_refl c.pattern)))

  listens_ok : (c : Talk) → TalkOk flags c → HeardOk flags c (listening clock c b).transfer (listening clock c b).records
  listens_ok c o = subst (λ (x : Heard). HeardOk flags c x.transfer x.records) (own_frame c) (heard_ok flags clock small c o b few bytes c.wide c.pattern)

  turned_place : (x : Option Talk) → T ((slot (talk_cell flags)).ok x) → T ((slot (talk_cell flags)).ok (turned_slot (λ c. (listening clock c b).transfer) x))
  unfolding slot turned_slot
  turned_place none t = tt
  turned_place (some c) t =
      let o : TalkOk flags c = talk_sound flags c t in
      talk_make flags (turned c (listening clock c b).transfer) (turned_ok flags (λ c. (listening clock c b).transfer) c o (listening clock c b).records (listens_ok c o))

  told_place : (x : Option Talk) → T ((slot (talk_cell flags)).ok x) → T (all (heard_cell flags).ok (news_at (λ c. (listening clock c b).records) x))
  unfolding slot news_at
  told_place none t = tt
  told_place (some c) t = (listens_ok c (talk_sound flags c t)).records_ok

-- ---- the region

module _ (r : List ℕ) (f : IsoOpened r) (k : ℕ) (h : k < most_talks) (wide : Bool) (id : ℕ) (mine : concerned wide id (get_or (ready_of r).talks k none) ≡ true) where
  abbrev o : OpenIso
  o = ready_of r

  abbrev flags : ℕ
  flags = fli o

  abbrev at : ℕ
  at = talks_at + k * talk_size

  abbrev x : Option Talk
  x = get_or o.talks k none

  abbrev t : List ℕ
  t = take (at + talk_size - at) (drop at r)

  place : Part iso_region r (slot (talk_cell flags)) at (at + talk_size - at) x (λ y. ready (set_talks o (set o.talks k y)))
  place = subst (λ (n : ℕ). Part iso_region r (slot (talk_cell flags)) at n x (λ y. ready (set_talks o (set o.talks k y)))) (sym (part_size at)) (talk_part o r (lies r f) k h)

  is_long : length t ≡ talk_size
  is_long = place.long ∙ part_size at

  pub place_valid : T ((slot (talk_cell (fli (ready_of r)))).valid (take (talks_at + k * talk_size + talk_size - (talks_at + k * talk_size)) (drop (talks_at + k * talk_size) r)))
  place_valid = place.valid

  -- its place can hear
  pub can_hear : Talking t
  unfolding concerned
  can_hear =
      record {
        flags = flags;
        long = is_long;
        valid = place.valid;
        taken =
            λ z.
            let empty : x ≡ none = sym place.got ∙ vacant flags t is_long place.valid z in
            true_T (concerned wide id none) (subst (λ (y : Option Talk). concerned wide id y ≡ true) empty mine);
      }

  x_ok : T ((slot (talk_cell flags)).ok x)
  unfolding talks_code
  x_ok = all_at (slot (talk_cell flags)).ok o.talks k none (unfold slot in tt) (many_each most_talks (slot (talk_cell flags)) o.talks (lies r f).talks_ok)

  module _ (clock : ℕ) (small : clock < 2 ^ 32) (b : List ℕ) (few : length b ≤ most_bytes) (bytes : T (all is_byte b)) where
    abbrev after : Talk → Transfer
    after c = (listening clock c b).transfer

    abbrev news_of : Talk → List Rec
    news_of c = (listening clock c b).records

    abbrev turned_o : OpenIso
    turned_o = set_talks o (turn_at k after o.talks)

    talks_after : T ((talks_code flags).ok (turn_at k after o.talks))
    unfolding talks_code turn_at
    talks_after =
        let ts = (lies r f).talks_ok in
        many_make most_talks (slot (talk_cell flags)) (set o.talks k (turned_slot after x)) (length-set o.talks k (turned_slot after x) ∙ many_count most_talks (slot (talk_cell flags)) o.talks ts)
        (all_set (slot (talk_cell flags)).ok o.talks k (turned_slot after x) (many_each most_talks (slot (talk_cell flags)) o.talks ts) (turned_place flags clock small b few bytes x x_ok))

    module _ (u s : List ℕ) (said : Told) (e : Hears clock b (slot (talk_cell flags)) t u said s) (r₁ : List ℕ) (e₁ : r₁ ≡ put_mid at (at + talk_size - at) r u) where
      heard_bytes : iso_region.put (ready turned_o) ≡ r₁
      unfolding turn_at
      heard_bytes = sym (e₁ ∙ place.becomes u (turned_slot after x) (e.turns ∙ ap (λ (y : Option Talk). (slot (talk_cell flags)).put (turned_slot after y)) place.got))

      lies_turned : Lies turned_o r₁
      unfolding set_talks
      lies_turned =
          let l = lies r f in
          record { bytes = heard_bytes; config_ok = l.config_ok; talks_ok = talks_after; written_ok = l.written_ok; flight_ok = l.flight_ok; heard_ok = l.heard_ok; last_ok = l.last_ok }

      -- the queue is lent
      abbrev q : List ℕ
      q = take (heard_size + 1) (drop heard_at r₁)

      queue_part : Part iso_region r₁ (heard_part flags) heard_at (heard_size + 1) o.receiving (λ y. ready (set_receiving turned_o y))
      unfolding set_talks
      queue_part = receiving_part_law turned_o r₁ lies_turned

      pub queue_lent : (length (take (heard_size + 1) (drop heard_at r₁)) ≡ heard_size + 1) × (get_or (take (heard_size + 1) (drop heard_at r₁)) 0 0 ≤ most_heard)
      queue_lent = (queue_part.long, count_few flags q queue_part.long queue_part.valid)

      module _ (w : List ℕ) (passed : (flags : ℕ) → T ((heard_part flags).valid (take (heard_size + 1) (drop heard_at r₁))) → (c : Talk) → c.wide ≡ wide → c.pattern ≡ id → w ≡ (heard_part flags).put (arrive_iso ((heard_part flags).get (take (heard_size + 1) (drop heard_at r₁))) (told said clock c s)))
          (r₂ : List ℕ) (e₂ : r₂ ≡ put_mid heard_at (heard_size + 1) r₁ w) where
        abbrev heard_o : OpenIso
        heard_o = set_receiving turned_o (arrive_iso o.receiving (news_at news_of x))

        speaker : Spoken wide id x
        speaker = spoken wide id x (true_T (concerned wide id x) mine)

        told_is : told said clock speaker.talk s ≡ news_at news_of x
        unfolding news_at
        told_is =
            sym (ap (news_at (λ c. told said clock c s)) speaker.is)
            ∙ sym (ap (news_at (λ c. told said clock c s)) place.got)
            ∙ sym e.tells
            ∙ ap (news_at news_of) place.got

        passed_bytes : iso_region.put (ready heard_o) ≡ r₂
        passed_bytes =
            sym
            (e₂
            ∙ queue_part.becomes w (arrive_iso o.receiving (news_at news_of x))
            (passed flags queue_part.valid speaker.talk speaker.width speaker.pattern
            ∙ ap₂ (λ (y : Receiving) (rs : List Rec). (heard_part flags).put (arrive_iso y rs)) queue_part.got told_is))

        queue_after : T ((heard_part flags).ok (arrive_iso o.receiving (news_at news_of x)))
        unfolding heard_part via both
        queue_after =
            join ((up_to most_heard (heard_cell flags)).ok (arrive_iso o.receiving (news_at news_of x)).queue) (mark.ok (arrive_iso o.receiving (news_at news_of x)).lost)
            (arrive_ok flags o.receiving (news_at news_of x) (good r f).queue_ok (told_place flags clock small b few bytes x x_ok)) (mark_ok _)

        pub lain : Lain r₂
        unfolding set_receiving set_talks both_on iso_rest both
        lain =
            let l = lies r f in
            let ts : T ((talks_code flags).ok (turn_at k after o.talks)) = talks_after in
            let q_ok : T ((heard_part flags).ok (arrive_iso o.receiving (news_at news_of x))) = queue_after in
            record {
              channel = heard_o;
              ok = search (join, l.config_ok, ts, l.written_ok, l.flight_ok, q_ok, l.last_ok) depth 9;
              bytes = passed_bytes;
            }

        pub heard_at_law : (r₃ : List ℕ) → ((l : Lain r₂) → r₃ ≡ iso_region.put (ready (disowned l.channel))) → r₃ ≡ iso_region.put (ready (hears_at k clock b (ready_of r)))
        unfolding lain disowned hears_at set_receiving set_talks set_flight with_talks
        heard_at_law r₃ g = g lain
