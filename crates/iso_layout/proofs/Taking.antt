-- Take and sent on an ISO 15765 channel keep what its region can hold. Assumes nothing.
use Rattle.std.specs.Prelude.{if◌then◌else◌}
use mathlib.Core.Path.{◌≡◌, refl, sym, ap, subst}
use Prim.Native.Nat.{ℕ, zero, suc, ◌+◌, ◌-◌, ◌/◌, ◌%◌, ◌^◌, ◌≤◌, ◌<◌}
use native.Mathlib.Omega.{arith}
use mathlib.Core.Logic.{◌⊎◌, inl, inr, ⊎_elim}
use mathlib.Core.Bool.{Bool, true, false, ◌&&◌, ◌||◌, not}
use mathlib.Core.Option.{Option, none, some}
use mathlib.Core.List.{List, [], ◌∷◌, ◌++◌}
use lib.ListN.{length, get_or, take, drop, length-append, length-drop, length-take}
use lib.Seq.{length-take-le}
use lib.Dec.{T, eqb, leb, ltb, eqb→eq, leb→le, le→leb, lt→ltb, nleb→lt}
use Rattle.codec.specs.Plain.{within, member, all, is_byte}
use Rattle.codec.specs.Code.{byte, both, via, such, up_to}
use Rattle.codec.proofs.Tests.{left, right, join, within_low, eq→eqb}
use Rattle.codec.proofs.Lists.{all_append, all_take, all_drop, Each, of_member}
use Rattle.codec.proofs.Many.{up_to_each, up_to_drop}
use Rattle.machine.specs.Message.{bit, width_flag, id_bytes, id_of, id_limit, takes, Rec, received}
use Rattle.machine.specs.Filter.{Slots, any_slot}
use Rattle.machine.specs.Limits.{most_data, most_bytes}
use Rattle.iso.specs.Limits.{most_talks, most_messages, id_size, iso_data, least_message, most_payload, longest_single, least_segmented, in_first, in_next}
use Rattle.iso.specs.Iso.{Stage, opens, awaits, flies, sends, Transmission, Transfer, idle, refuses, receives, transmits, Talk, Owner, nobody, message, transfer_at, Flight, turned, turned_slot, turn_at, news_at, number_after, framed, single_frame, un_single, first_frame, next_frame, flow_frame, tx_done, staged, transmitting, knows, airborne, airborne_at, Given, Chosen, passing, giving, lowest, gives, answer_of, next_of, segment_of, carries, start_of, starting, or_else, choice, whole_of, sent_stage, sent_of, done_of, landed_talks, messages_done, done_records}
use Rattle.iso_layout.specs.Region.{rec536, iso_outgoing, message_cell, frame_cell, heard_cell, step_of7, segments_in, owner_parts, owned_fits, flight_code, transmits_in, knows_other, owner_fits, flies_in, owned_by, flight_fits}
use Rattle.machine.proofs.Tables.{by_test, neither}
use Rattle.iso_layout.proofs.Held.{Fit, ToSend, sending_make, sending_sound, reading_make, telling_make, ReceptionOk, StageOk, TransmissionOk, TransferOk, TalkOk}
use Rattle.iso_layout.proofs.Good.{PlaceOk, Linked}
use Rattle.iso_layout.proofs.Hearing.{by_either, no_segment, framed_fit, step_more}

-- ---- frames for the flight

pub flight_make : (flags : ℕ) (r : Rec) (w : Owner) → T ((frame_cell flags).ok r) → T (owned_fits (owner_parts w, r)) → owner_parts w ≤ suc most_talks → T ((flight_code flags).ok (record { frame = r; owner = w }))
unfolding flight_code via such both byte
flight_make flags r w t f h = let k : T (ltb (owner_parts w) 256) = lt→ltb (owner_parts w) 256 (omega arith) in search join

framed_ok : (flags : ℕ) (wide : Bool) (id : ℕ) (b : List ℕ) → T (takes flags wide) → id ≤ id_limit wide → 1 ≤ length b → length b ≤ most_bytes → T (all is_byte b) → T ((frame_cell flags).ok (framed wide id b))
unfolding frame_cell framed
framed_ok flags wide id b w h lo hi t = sending_make flags most_data (omega arith) wide (id_bytes id ++ b) (framed_fit flags least_message most_data wide id b w h (omega arith) (omega arith) t)

-- a frame of nobody, or of the transfer at place 0 or 1
owned_ok : (flags : ℕ) (r : Rec) (w : Owner) → T ((frame_cell flags).ok r) → (owner_parts w ≡ 0) ⊎ ((owner_parts w ≡ 2) ⊎ (owner_parts w ≡ 3)) → T ((flight_code flags).ok (record { frame = r; owner = w }))
unfolding owned_fits
owned_ok flags r w t (inl e) = flight_make flags r w t (subst (λ (n : ℕ). T (owned_fits (n, r))) (sym e) tt) (omega arith)
owned_ok flags r w t (inr (inl e)) = flight_make flags r w t (subst (λ (n : ℕ). T (owned_fits (n, r))) (sym e) tt) (omega arith)
owned_ok flags r w t (inr (inr e)) = flight_make flags r w t (subst (λ (n : ℕ). T (owned_fits (n, r))) (sym e) tt) (omega arith)

-- ---- what a conversation gives

step_front : (n : ℕ) → T (step_of7 n) → in_first ≤ n
unfolding step_of7
step_front n t = leb→le in_first n (left (leb in_first n) (eqb ((n + 1) % in_next) 0) t)

take_most : (n : ℕ) (b : List ℕ) → length (take n b) ≤ n
take_most n b = omega (arith, length-take n b)

-- what it gives, at place k: the conversation can be held, the frame too; the frame is its own and it is in the air, or nobody's and it transmits
-- nothing; and it transmits only where it did or where none does
pub record GivenOk (flags k : ℕ) (c : Talk) (free : Type 0) (g : Given) : Type 0 where
  pub talk_ok : TalkOk flags (turned c g.transfer)
  pub frame_ok : T ((frame_cell flags).ok g.frame)
  pub own : ((g.owner ≡ nobody) × T (not (transmitting g.transfer))) ⊎ ((g.owner ≡ transfer_at k) × T (airborne g.transfer))
  pub quiet : T (transmitting g.transfer) → T (transmitting c.transfer) ⊎ free

abbrev pub MayGive : ℕ → ℕ → Talk → Type 0 → Option Given → Type 0
MayGive flags k c free none = Unit {0}
MayGive flags k c free (some g) = GivenOk flags k c free g

module _ (flags : ℕ) (c : Talk) (o : TalkOk flags c) where
  turn_ok : (x : Transfer) → TransferOk x → T (not (eqb c.pattern c.flow && segments_in x)) → TalkOk flags (turned c x)
  unfolding turned
  turn_ok x k p = record { width = o.width; pattern_in = o.pattern_in; flow_in_law = o.flow_in_law; plain = p; transfer_ok = k }

  flow_ok : (status : ℕ) → status ≤ 2 → T ((frame_cell flags).ok (flow_frame c status))
  unfolding flow_frame
  flow_ok status h =
      let small : T (is_byte (0x30 + status)) = lt→ltb (0x30 + status) 256 (omega arith) in
      framed_ok flags c.wide c.flow _ o.width o.flow_in_law (omega arith) (omega arith) (search join)

  pub answer_ok : (k : ℕ) (free : Type 0) (x : Transfer) → c.transfer ≡ x → MayGive flags k c free (answer_of k c x)
  unfolding answer_of gives transmitting airborne segments_in
  answer_ok k free idle e = tt
  answer_ok k free refuses e =
      record { talk_ok = turn_ok idle tt (no_segment (eqb c.pattern c.flow)); frame_ok = flow_ok 2 (omega arith); own = inl (refl, tt); quiet = λ t. absurd t }
  answer_ok k free (receives r) e =
      let q : ReceptionOk r = subst TransferOk e o.transfer_ok in
      by_test (MayGive flags k c free) r.go_on _ _
      (λ t.
      record {
        talk_ok =
            turn_ok _ (record { least = q.least; most = q.most; step = q.step; part = q.part; second = q.second; bytes = q.bytes })
            (subst (λ (x : Transfer). T (not (eqb c.pattern c.flow && segments_in x))) e o.plain);
        frame_ok = flow_ok 0 (omega arith);
        own = inr (refl, tt);
        quiet = λ t. absurd t;
      })
      tt
  answer_ok k free (transmits t) e = tt

  number_small : (n : ℕ) → T (is_byte (0x20 + number_after n))
  unfolding number_after
  number_small n = lt→ltb (0x20 + (n + 1) / in_next % 16) 256 (omega arith)

  segment_ok : (k : ℕ) (free : Type 0) (t : Transmission) → c.transfer ≡ transmits t → (s : Stage) → t.stage ≡ s → MayGive flags k c free (next_of k c t s)
  unfolding next_of gives next_frame transmitting airborne segments_in
  segment_ok k free t e opens f = tt
  segment_ok k free t e (awaits run) f = tt
  segment_ok k free t e (flies l g) f = tt
  segment_ok k free t e (sends l g w) f =
      let m : TransmissionOk t = subst TransferOk e o.transfer_ok in
      let q : StageOk t.taken (length t.payload) (sends l g w) = subst (StageOk t.taken (length t.payload)) f m.stage in
      let below = q.3 in
      let six : in_first ≤ t.taken = step_front t.taken q.2 in
      let few : length (take in_next (drop t.taken t.payload)) ≤ in_next = take_most in_next (drop t.taken t.payload) in
      by_test (MayGive flags k c free) (eqb w 0) _ _
      (λ u.
      record {
        talk_ok =
            turn_ok _
            (record {
              least = m.least;
              most = m.most;
              bytes = m.bytes;
              stage = (q.0, q.1, step_more t.taken (t.taken + in_next) refl q.2, omega arith, omega arith);
            })
            (no_segment (eqb c.pattern c.flow));
        frame_ok =
            framed_ok flags c.wide c.flow _ o.width o.flow_in_law (omega arith) (omega arith)
            (join (is_byte (0x20 + number_after t.taken)) _ (number_small t.taken) (all_take is_byte in_next (drop t.taken t.payload) (all_drop is_byte t.taken t.payload m.bytes)));
        own = inr (refl, tt);
        quiet = λ v. inl (subst (λ (x : Transfer). T (transmitting x)) (sym e) tt);
      })
      tt

  pub segment_of_ok : (k : ℕ) (free : Type 0) (x : Transfer) → c.transfer ≡ x → MayGive flags k c free (segment_of k c x)
  unfolding segment_of
  segment_of_ok k free idle e = tt
  segment_of_ok k free refuses e = tt
  segment_of_ok k free (receives r) e = tt
  segment_of_ok k free (transmits t) e = segment_ok k free t e t.stage refl

  first_frame_ok : (p : List ℕ) → least_segmented ≤ length p → length p ≤ most_payload → T (all is_byte p) → T ((frame_cell flags).ok (first_frame c p))
  unfolding first_frame
  first_frame_ok p lo hi t =
      let six : length (take in_first p) ≡ in_first = length-take-le in_first p (omega arith) in
      let high : T (is_byte (0x10 + length p / 256)) = lt→ltb (0x10 + length p / 256) 256 (omega arith) in
      let low : T (is_byte (length p % 256)) = lt→ltb (length p % 256) 256 (omega arith) in
      framed_ok flags c.wide c.flow _ o.width o.flow_in_law (omega arith) (omega arith)
      (join (is_byte (0x10 + length p / 256)) _ high (join (is_byte (length p % 256)) _ low (all_take is_byte in_first p t)))

  pub start_of_ok : (k : ℕ) (free : Type 0) → free → (m : Rec) → ToSend flags iso_data m → longest_single < length m.bytes → (x : Transfer) → c.transfer ≡ x → MayGive flags k c free (start_of m k c x)
  unfolding start_of gives transmitting airborne segments_in
  start_of_ok k free f m q h refuses e = tt
  start_of_ok k free f m q h (receives r) e = tt
  start_of_ok k free f m q h (transmits t) e = tt
  start_of_ok k free f m q h idle e =
      let b : List ℕ = m.bytes in
      let most = q.fit.most in
      let l = length-drop id_size b in
      let bytes = all_drop is_byte id_size b q.fit.bytes in
      by_test (MayGive flags k c free) (carries (bit 0x100 m.tx) (id_of b) c) _ _
      (λ u.
      record {
        talk_ok = turn_ok _ (record { least = omega arith; most = omega arith; bytes = bytes; stage = refl }) (no_segment (eqb c.pattern c.flow));
        frame_ok = first_frame_ok (drop id_size b) (omega arith) (omega arith) bytes;
        own = inr (refl, tt);
        quiet = λ v. inr f;
      })
      tt

-- ---- the choice

-- identifiers stay with another transfer
knows_turned : (a : Option Talk) (d : Talk) (x : Transfer) → T (not (knows_other a (some d ∷ []))) → T (not (knows_other a (some (turned d x) ∷ [])))
unfolding knows_other any_slot knows turned
knows_turned none d x t = t
knows_turned (some c) d x t = t

pub record ChosenOk (flags : ℕ) (x : Chosen) : Type 0 where
  pub one : Option Talk
  pub two : Option Talk
  pub talks_are : x.talks ≡ one ∷ two ∷ []
  pub one_ok : PlaceOk flags one
  pub two_ok : PlaceOk flags two
  pub linked_ok : Linked one two (some (record { frame = x.frame; owner = x.owner }))
  pub flight_ok : T ((flight_code flags).ok (record { frame = x.frame; owner = x.owner }))
  pub written_ok : T ((up_to most_messages (message_cell flags)).ok x.written)

abbrev pub MayChoose : ℕ → Option Chosen → Type 0
MayChoose flags none = Unit {0}
MayChoose flags (some x) = ChosenOk flags x

deny : (p : Bool) → (T p → ⊥) → T (not p)
deny true f = f tt
deny false f = tt

never : (p : Bool) → T (not p) → T p → ⊥
never true n u = n
never false n u = u

module _ (flags : ℕ) (free : Type 0) (ws : List Rec) (written : T ((up_to most_messages (message_cell flags)).ok ws)) (a b : Option Talk) (l : Linked a b none) (calm : free → T (not (transmits_in a)) × T (not (transmits_in b))) where
  quiet_first : T (flies_in a) → ⊥
  unfolding owned_by
  quiet_first t = l.first t

  quiet_second : T (flies_in b) → ⊥
  unfolding owned_by
  quiet_second t = l.second t

  first_given : (c : Talk) → a ≡ some c → PlaceOk flags b → (g : Given) → GivenOk flags 0 c free g
      → ChosenOk flags (record { frame = g.frame; owner = g.owner; talks = some (turned c g.transfer) ∷ b ∷ []; written = ws })
  unfolding transmits_in flies_in airborne_at knows_other turned owner_fits flight_fits owned_by
  first_given c e pb g k =
      record {
        one = some (turned c g.transfer);
        two = b;
        talks_are = refl;
        one_ok = k.talk_ok;
        two_ok = pb;
        linked_ok =
            record {
              apart = subst (λ (x : Option Talk). T (not (knows_other x (b ∷ [])))) e l.apart;
              one =
                  deny (transmitting g.transfer && transmits_in b)
                  (λ t.
                  let tb = right (transmitting g.transfer) (transmits_in b) t in
                  ⊎_elim
                  (λ u. never (transmits_in a && transmits_in b) l.one (join (transmits_in a) (transmits_in b) (subst (λ (x : Option Talk). T (transmits_in x)) (sym e) u) tb))
                  (λ f. never (transmits_in b) (calm f).1 tb) (k.quiet (left (transmitting g.transfer) (transmits_in b) t)));
              owner =
                  ⊎_elim (λ p. subst (λ (w : Owner). T (owner_fits (some (turned c g.transfer) ∷ b ∷ []) w)) (sym p.0) tt)
                  (λ p. subst (λ (w : Owner). T (owner_fits (some (turned c g.transfer) ∷ b ∷ []) w)) (sym p.0) p.1) k.own;
              first =
                  λ t.
                  ⊎_elim (λ p. absurd (never (transmitting g.transfer) p.1 (left (transmitting g.transfer) (airborne g.transfer) t)))
                  (λ p. subst (λ (w : Owner). T (eqb (owner_parts w) (0 + 2))) (sym p.0) tt) k.own;
              second = λ t. absurd (quiet_second t);
            };
        flight_ok = owned_ok flags g.frame g.owner k.frame_ok (⊎_elim (λ p. inl (ap owner_parts p.0)) (λ p. inr (inl (ap owner_parts p.0))) k.own);
        written_ok = written;
      }

  second_given : (d : Talk) → b ≡ some d → PlaceOk flags a → (g : Given) → GivenOk flags 1 d free g
      → ChosenOk flags (record { frame = g.frame; owner = g.owner; talks = a ∷ some (turned d g.transfer) ∷ []; written = ws })
  unfolding transmits_in flies_in airborne_at knows_other turned owner_fits flight_fits owned_by
  second_given d e pa g k =
      record {
        one = a;
        two = some (turned d g.transfer);
        talks_are = refl;
        one_ok = pa;
        two_ok = k.talk_ok;
        linked_ok =
            record {
              apart = knows_turned a d g.transfer (subst (λ (x : Option Talk). T (not (knows_other a (x ∷ [])))) e l.apart);
              one =
                  deny (transmits_in a && transmitting g.transfer)
                  (λ t.
                  let ta = left (transmits_in a) (transmitting g.transfer) t in
                  ⊎_elim
                  (λ u. never (transmits_in a && transmits_in b) l.one (join (transmits_in a) (transmits_in b) ta (subst (λ (x : Option Talk). T (transmits_in x)) (sym e) u)))
                  (λ f. never (transmits_in a) (calm f).0 ta) (k.quiet (right (transmits_in a) (transmitting g.transfer) t)));
              owner =
                  ⊎_elim (λ p. subst (λ (w : Owner). T (owner_fits (a ∷ some (turned d g.transfer) ∷ []) w)) (sym p.0) tt)
                  (λ p. subst (λ (w : Owner). T (owner_fits (a ∷ some (turned d g.transfer) ∷ []) w)) (sym p.0) p.1) k.own;
              first = λ t. absurd (quiet_first t);
              second =
                  λ t.
                  ⊎_elim (λ p. absurd (never (transmitting g.transfer) p.1 (left (transmitting g.transfer) (airborne g.transfer) t)))
                  (λ p. subst (λ (w : Owner). T (eqb (owner_parts w) (1 + 2))) (sym p.0) tt) k.own;
            };
        flight_ok = owned_ok flags g.frame g.owner k.frame_ok (⊎_elim (λ p. inl (ap owner_parts p.0)) (λ p. inr (inr (ap owner_parts p.0))) k.own);
        written_ok = written;
      }

  -- the lowest-numbered conversation that has something to give
  module _ (f : ℕ → Talk → Option Given) (k : (j : ℕ) (c : Talk) → TalkOk flags c → MayGive flags j c free (f j c)) (pa : PlaceOk flags a) (pb : PlaceOk flags b) where
    from_second : (x : Option Talk) → b ≡ x → MayChoose flags (passing a (lowest f 1 (x ∷ []) ws))
    unfolding lowest passing giving
    from_second none e = tt
    from_second (some d) e = go (f 1 d) (k 1 d (subst (PlaceOk flags) e pb))
      where
        go : (g : Option Given) → MayGive flags 1 d free g → MayChoose flags (passing a (giving g d [] ws (passing (some d) none)))
        go none m = tt
        go (some g) m = second_given d e pa g m

    pub lowest_ok : (x y : Option Talk) → a ≡ x → b ≡ y → MayChoose flags (lowest f 0 (x ∷ y ∷ []) ws)
    unfolding lowest giving
    lowest_ok none y e e' = subst (λ (z : Option Talk). MayChoose flags (passing z (lowest f 1 (y ∷ []) ws))) e (from_second y e')
    lowest_ok (some c) y e e' = go (f 0 c) (k 0 c (subst (PlaceOk flags) e pa))
      where
        go : (g : Option Given) → MayGive flags 0 c free g → MayChoose flags (giving g c (y ∷ []) ws (passing (some c) (lowest f 1 (y ∷ []) ws)))
        go none m = subst (λ (z : Option Talk). MayChoose flags (passing z (lowest f 1 (y ∷ []) ws))) e (from_second y e')
        go (some g) m = subst (λ (z : Option Talk). ChosenOk flags (record { frame = g.frame; owner = g.owner; talks = some (turned c g.transfer) ∷ z ∷ []; written = ws })) e' (first_given c e pb g m)

-- ---- single frames

-- the identifier is that of the first four bytes
id_front : (b r : List ℕ) → id_size ≤ length b → id_of (take id_size b ++ r) ≡ id_of b
unfolding id_of
id_front [] r h = absurd (omega arith)
id_front (x ∷ []) r h = absurd (omega arith)
id_front (x ∷ y ∷ []) r h = absurd (omega arith)
id_front (x ∷ y ∷ z ∷ []) r h = absurd (omega arith)
id_front (x ∷ y ∷ z ∷ w ∷ b) r h = refl

fifth : (b r : List ℕ) (n : ℕ) → id_size ≤ length b → get_or (take id_size b ++ n ∷ r) id_size 0 ≡ n
fifth [] r n h = absurd (omega arith)
fifth (x ∷ []) r n h = absurd (omega arith)
fifth (x ∷ y ∷ []) r n h = absurd (omega arith)
fifth (x ∷ y ∷ z ∷ []) r n h = absurd (omega arith)
fifth (x ∷ y ∷ z ∷ w ∷ b) r n h = refl

-- TxFlags that say a width are the flag of that width
flag_is : (tx : ℕ) → T (member tx (0 ∷ 0x100 ∷ [])) → tx ≡ width_flag (bit 0x100 tx)
unfolding width_flag bit member
flag_is tx t = of_member (λ (n : ℕ). n ≡ width_flag (bit 0x100 n)) (0 ∷ 0x100 ∷ []) (refl, (refl, tt)) tx t

module _ (flags : ℕ) (m : Rec) (q : ToSend flags iso_data m) where
  single_ok : length m.bytes ≤ longest_single → T ((flight_code flags).ok (record { frame = single_frame m; owner = message }))
  unfolding single_frame owned_fits frame_cell within
  single_ok h =
      let b : List ℕ = m.bytes in
      let n : ℕ = length b - id_size in
      let least = q.fit.least in
      let l4 : length (take id_size b) ≡ id_size = length-take-le id_size b (omega arith) in
      let ld = length-drop id_size b in
      let l = length-append (take id_size b) (n ∷ drop id_size b) in
      let long : length (take id_size b ++ n ∷ drop id_size b) ≡ length b + 1 = omega arith in
      let small : T (is_byte n) = lt→ltb n 256 (omega arith) in
      let id = id_front b (n ∷ drop id_size b) (omega arith) in
      let five = fifth b (drop id_size b) n (omega arith) in
      let fit : Fit flags least_message most_data (bit 0x100 m.tx) (take id_size b ++ n ∷ drop id_size b) =
      record {
        least = omega arith;
        most = omega arith;
        bytes = all_append is_byte (take id_size b) (n ∷ drop id_size b) (all_take is_byte id_size b q.fit.bytes) (join (is_byte n) _ small (all_drop is_byte id_size b q.fit.bytes));
        identifier = subst (λ (k : ℕ). k ≤ id_limit (bit 0x100 m.tx)) (sym id) q.fit.identifier;
        width = q.fit.width;
      } in
      let cell = sending_make flags most_data (omega arith) (bit 0x100 m.tx) (take id_size b ++ n ∷ drop id_size b) fit in
      let s : List ℕ = take id_size b ++ n ∷ drop id_size b in
      let lo : T (leb (suc least_message) (length s)) = le→leb (suc least_message) (length s) (omega arith) in
      let hi : T (leb (length s) most_data) = le→leb (length s) most_data (omega arith) in
      let pci : T (eqb (get_or s id_size 0) (length s - suc id_size)) = eq→eqb (get_or s id_size 0) (length s - suc id_size) (omega arith) in
      flight_make flags (single_frame m) message
      (subst (λ (x : ℕ). T ((such (iso_outgoing flags most_data) rec536).ok (record { rx = 0; tx = x; time = 0; bytes = take id_size b ++ n ∷ drop id_size b }))) (sym (flag_is m.tx q.flag)) cell)
      (join (leb (suc least_message) (length s) && leb (length s) most_data) (eqb (get_or s id_size 0) (length s - suc id_size)) (join (leb (suc least_message) (length s)) (leb (length s) most_data) lo hi) pci) (omega arith)

-- THE CHOICE gives what can be held
module _ (flags : ℕ) (a b : Option Talk) (l : Linked a b none) (pa : PlaceOk flags a) (pb : PlaceOk flags b) where
  -- where none transmits
  calm_slots : T (not (any_slot (λ c. transmitting c.transfer) (a ∷ b ∷ []))) → T (not (transmits_in a)) × T (not (transmits_in b))
  unfolding any_slot transmits_in
  calm_slots t = go a b t
    where
      go : (x y : Option Talk) → T (not (any_slot (λ c. transmitting c.transfer) (x ∷ y ∷ []))) → T (not (transmits_in x)) × T (not (transmits_in y))
      go none none t = (tt, tt)
      go none (some d) t = (tt, (neither (transmitting d.transfer) false t).0)
      go (some c) none t = ((neither (transmitting c.transfer) false t).0, tt)
      go (some c) (some d) t =
          let p = neither (transmitting c.transfer) (transmitting d.transfer || false) t in
          (p.0, (neither (transmitting d.transfer) false p.1).0)

  starting_ok : (ws : List Rec) → T ((up_to most_messages (message_cell flags)).ok ws) → T (not (any_slot (λ c. transmitting c.transfer) (a ∷ b ∷ []))) → MayChoose flags (starting ws (a ∷ b ∷ []))
  unfolding starting message_cell flight_fits owner_fits owned_by
  starting_ok [] w n = tt
  starting_ok (m ∷ ws) w n =
      let q : ToSend flags iso_data m = sending_sound flags iso_data m (left ((message_cell flags).ok m) _ (up_to_each most_messages (message_cell flags) (m ∷ ws) w)) in
      let rest : T ((up_to most_messages (message_cell flags)).ok ws) = up_to_drop most_messages (message_cell flags) 1 (m ∷ ws) w in
      by_either (MayChoose flags) (leb (length m.bytes) longest_single) _ _
      (λ t.
      record {
        one = a;
        two = b;
        talks_are = refl;
        one_ok = pa;
        two_ok = pb;
        linked_ok =
            record { apart = l.apart; one = l.one; owner = tt; first = λ u. absurd (quiet_first flags ⊥ ws rest a b l (λ f. absurd f) u); second = λ u. absurd (quiet_second flags ⊥ ws rest a b l (λ f. absurd f) u) };
        flight_ok = single_ok flags m q (leb→le (length m.bytes) longest_single t);
        written_ok = rest;
      })
      (λ t.
      lowest_ok flags (Unit {0}) ws rest a b l (λ f. calm_slots n) (λ k c. start_of m k c c.transfer)
      (λ j c o. start_of_ok flags c o j (Unit {0}) tt m q (nleb→lt (length m.bytes) longest_single t) c.transfer refl) pa pb a b refl refl)

  pub choice_ok : (ws : List Rec) → T ((up_to most_messages (message_cell flags)).ok ws) → MayChoose flags (choice (a ∷ b ∷ []) ws)
  unfolding choice or_else
  choice_ok ws w =
      or_else_law (lowest (λ k c. answer_of k c c.transfer) 0 (a ∷ b ∷ []) ws) _
      (lowest_ok flags ⊥ ws w a b l (λ f. absurd f) (λ k c. answer_of k c c.transfer) (λ j c o. answer_ok flags c o j ⊥ c.transfer refl) pa pb a b refl refl)
      (by_either (MayChoose flags) (any_slot (λ c. transmitting c.transfer) (a ∷ b ∷ [])) _ _
      (λ t. lowest_ok flags ⊥ ws w a b l (λ f. absurd f) (λ k c. segment_of k c c.transfer) (λ j c o. segment_of_ok flags c o j ⊥ c.transfer refl) pa pb a b refl refl)
      (λ t. starting_ok ws w t))
    where
      or_else_law : (x y : Option Chosen) → MayChoose flags x → MayChoose flags y → MayChoose flags (or_else x y)
      or_else_law none y p q = q
      or_else_law (some x) y p q = p

-- ---- sent

module _ (flags : ℕ) (c : Talk) (o : TalkOk flags c) where
  abbrev Landed : Transfer → Type 0
  Landed x = TalkOk flags (turned c x)

  sent_stage_law : (t : Transmission) → c.transfer ≡ transmits t → (s : Stage) → t.stage ≡ s → Landed (sent_stage t s)
  unfolding sent_stage staged segments_in
  sent_stage_law t e opens f =
      let m : TransmissionOk t = subst TransferOk e o.transfer_ok in
      let six : StageOk t.taken (length t.payload) opens = subst (StageOk t.taken (length t.payload)) f m.stage in
      let least = m.least in
      turn_ok flags c o _ (record { least = m.least; most = m.most; bytes = m.bytes; stage = (subst (λ (n : ℕ). T (step_of7 n)) (sym six) (unfold step_of7 in tt), omega arith, omega arith) }) (no_segment (eqb c.pattern c.flow))
  sent_stage_law t e (awaits run) f = subst Landed e (turn_ok flags c o c.transfer o.transfer_ok o.plain)
  sent_stage_law t e (sends l g w) f = subst Landed e (turn_ok flags c o c.transfer o.transfer_ok o.plain)
  sent_stage_law t e (flies l g) f =
      let m : TransmissionOk t = subst TransferOk e o.transfer_ok in
      let q : StageOk t.taken (length t.payload) (flies l g) = subst (StageOk t.taken (length t.payload)) f m.stage in
      let few = q.0 in
      let plain = no_segment (eqb c.pattern c.flow) in
      by_either Landed (leb (length t.payload) t.taken) _ _ (λ u. turn_ok flags c o idle tt plain)
      (λ u.
      let more : t.taken < length t.payload = nleb→lt (length t.payload) t.taken u in
      by_test Landed (eqb l 1) _ _
      (λ v. turn_ok flags c o _ (record { least = m.least; most = m.most; bytes = m.bytes; stage = (q.2, more, omega arith) }) plain)
      (turn_ok flags c o _ (record { least = m.least; most = m.most; bytes = m.bytes; stage = (omega arith, q.1, q.2, more, omega arith) }) plain))

  sent_ok : (x : Transfer) → c.transfer ≡ x → Landed (sent_of x)
  unfolding sent_of segments_in
  sent_ok idle e = turn_ok flags c o idle tt (no_segment (eqb c.pattern c.flow))
  sent_ok refuses e = subst Landed e (turn_ok flags c o c.transfer o.transfer_ok o.plain)
  sent_ok (receives r) e =
      let q : ReceptionOk r = subst TransferOk e o.transfer_ok in
      turn_ok flags c o _ (record { least = q.least; most = q.most; step = q.step; part = q.part; second = omega arith; bytes = q.bytes })
      (subst (λ (x : Transfer). T (not (eqb c.pattern c.flow && segments_in x))) e o.plain)
  sent_ok (transmits t) e = sent_stage_law t e t.stage refl

-- after it nothing of the transfer flies, and it transmits only if it did
grounded_stage : (t : Transmission) (s : Stage) → t.stage ≡ s → T (transmitting (sent_stage t s) && airborne (sent_stage t s)) → ⊥
unfolding sent_stage staged transmitting airborne
grounded_stage t opens f u = u
grounded_stage t (awaits run) f u = subst (λ (s : Stage). T (airborne (transmits (record { payload = t.payload; taken = t.taken; stage = s })))) f u
grounded_stage t (sends l g w) f u = subst (λ (s : Stage). T (airborne (transmits (record { payload = t.payload; taken = t.taken; stage = s })))) f u
grounded_stage t (flies l g) f u =
    by_test (λ (x : Transfer). T (transmitting x && airborne x) → ⊥) (leb (length t.payload) t.taken) _ _ (λ v k. k) (by_test (λ (x : Transfer). T (transmitting x && airborne x) → ⊥) (eqb l 1) _ _ (λ v k. k) (λ k. k)) u

grounded : (x : Transfer) → T (transmitting (sent_of x) && airborne (sent_of x)) → ⊥
unfolding sent_of transmitting
grounded idle u = u
grounded refuses u = u
grounded (receives r) u = u
grounded (transmits t) u = grounded_stage t t.stage refl u

sent_transmits : (x : Transfer) → T (transmitting (sent_of x)) → T (transmitting x)
unfolding sent_of transmitting
sent_transmits idle u = u
sent_transmits refuses u = u
sent_transmits (receives r) u = u
sent_transmits (transmits t) u = tt

-- ---- the messages that a sent ends

pub done_ok : (flags now : ℕ) → now < 2 ^ 32 → (loopback : Bool) (m : Rec) → ToSend flags iso_data m → T (all (heard_cell flags).ok (tx_done now loopback m))
unfolding tx_done received bit member
done_ok flags now h loopback m q =
    of_member
    (λ (n : ℕ). Fit flags least_message iso_data (bit 0x100 n) m.bytes
    → T (all (heard_cell flags).ok (received now (n + 9) (take id_size m.bytes) ∷ (if loopback then received now (n + 1) m.bytes ∷ [] else [])))) (0 ∷ 0x100 ∷ [])
    (λ f. both_told 0 false tt tt f f, (λ f. both_told 0x100 true tt tt f f, tt)) m.tx q.flag q.fit
  where
    four : (b : List ℕ) → id_size ≤ length b → id_of (take id_size b) ≡ id_of b
    four b h = go b h
      where
        go : (b : List ℕ) → id_size ≤ length b → id_of (take id_size b) ≡ id_of b
        go [] h = absurd (omega arith)
        go (x ∷ []) h = absurd (omega arith)
        go (x ∷ y ∷ []) h = absurd (omega arith)
        go (x ∷ y ∷ z ∷ []) h = absurd (omega arith)
        go (x ∷ y ∷ z ∷ w ∷ b) h = unfold id_of in refl

    alone : (wide : Bool) → Fit flags least_message iso_data wide m.bytes → Fit flags id_size id_size wide (take id_size m.bytes)
    alone wide f =
        let least = f.least in
        let l = length-take-le id_size m.bytes (omega arith) in
        record {
          least = omega arith;
          most = omega arith;
          bytes = all_take is_byte id_size m.bytes f.bytes;
          identifier = subst (λ (k : ℕ). k ≤ id_limit wide) (sym (four m.bytes (omega arith))) f.identifier;
          width = f.width;
        }

    echo : (r : Rec) → T ((heard_cell flags).ok r) → (g : Bool) → T (all (heard_cell flags).ok (if g then r ∷ [] else []))
    echo r t true = join ((heard_cell flags).ok r) true t tt
    echo r t false = tt

    both_told : (n : ℕ) (wide : Bool) → T (member (n + 9) (2 ∷ 9 ∷ 0x102 ∷ 0x109 ∷ [])) → T (member (n + 1) (0 ∷ 1 ∷ 0x100 ∷ 0x101 ∷ []))
        → Fit flags least_message iso_data (bit 0x100 (n + 9)) m.bytes → Fit flags least_message iso_data (bit 0x100 (n + 1)) m.bytes
        → T (all (heard_cell flags).ok (received now (n + 9) (take id_size m.bytes) ∷ (if loopback then received now (n + 1) m.bytes ∷ [] else [])))
    both_told n wide p r f g =
        join ((heard_cell flags).ok (received now (n + 9) (take id_size m.bytes))) _ (telling_make flags now (n + 9) (take id_size m.bytes) h p (alone (bit 0x100 (n + 9)) f))
        (echo (received now (n + 1) m.bytes) (reading_make flags now (n + 1) m.bytes h r g) loopback)

pub dones_ok : (flags now : ℕ) → now < 2 ^ 32 → (loopback : Bool) (ms : List Rec) → Each (ToSend flags iso_data) ms → T (all (heard_cell flags).ok (done_records now loopback ms))
unfolding done_records
dones_ok flags now h loopback [] e = tt
dones_ok flags now h loopback (m ∷ ms) e = all_append (heard_cell flags).ok (tx_done now loopback m) _ (done_ok flags now h loopback m e.0) (dones_ok flags now h loopback ms e.1)

-- ---- what a frame that was sent belonged to

-- a message of a conversation that is whole
whole_ok : (flags : ℕ) (c : Talk) → TalkOk flags c → (t : Transmission) → TransmissionOk t → (s : Stage) → Each (ToSend flags iso_data) (whole_of c t s)
unfolding whole_of framed message_cell
whole_ok flags c o t m opens = tt
whole_ok flags c o t m (awaits run) = tt
whole_ok flags c o t m (sends l g w) = tt
whole_ok flags c o t m (flies l g) =
    let least = m.least in
    let most = m.most in
    by_test (Each (ToSend flags iso_data)) (leb (length t.payload) t.taken) _ _
    (λ u. (
      sending_sound flags iso_data _
          (sending_make flags iso_data (omega arith) c.wide (id_bytes c.flow ++ t.payload) (framed_fit flags least_message iso_data c.wide c.flow t.payload o.width o.flow_in_law (omega arith) (omega arith) m.bytes)),
      tt,
    ))
    tt

done_of_ok : (flags : ℕ) (c : Talk) → TalkOk flags c → (x : Transfer) → c.transfer ≡ x → Each (ToSend flags iso_data) (done_of c x)
unfolding done_of
done_of_ok flags c o idle e = tt
done_of_ok flags c o refuses e = tt
done_of_ok flags c o (receives r) e = tt
done_of_ok flags c o (transmits t) e = whole_ok flags c o t (subst TransferOk e o.transfer_ok) t.stage

place_done : (flags : ℕ) (x : Option Talk) → PlaceOk flags x → Each (ToSend flags iso_data) (news_at (λ c. done_of c c.transfer) x)
unfolding news_at
place_done flags none o = tt
place_done flags (some c) o = done_of_ok flags c o c.transfer refl

-- what a flight that can be held is
pub record FlightOk (flags : ℕ) (f : Flight) : Type 0 where
  pub sendable : ToSend flags most_data f.frame
  pub few : owner_parts f.owner ≤ suc most_talks
  pub single : owner_parts f.owner ≡ 1 → suc least_message ≤ length f.frame.bytes

pub flight_sound : (flags : ℕ) (f : Flight) → T ((flight_code flags).ok f) → FlightOk flags f
unfolding flight_code via such both owned_fits frame_cell
flight_sound flags f t =
    let cell : T ((such (iso_outgoing flags most_data) rec536).ok f.frame) = search (left, right) in
    let fits : T (owned_fits (owner_parts f.owner, f.frame)) = search right in
    let b : List ℕ = f.frame.bytes in
    record {
      sendable = sending_sound flags most_data f.frame cell;
      few = leb→le (owner_parts f.owner) (suc most_talks) (left (leb (owner_parts f.owner) (suc most_talks)) _ fits);
      single =
          λ e.
          let or : T (not (eqb (owner_parts f.owner) 1) || within (suc least_message) most_data (length b) && eqb (get_or b id_size 0) (length b - suc id_size)) = right (leb (owner_parts f.owner) (suc most_talks)) _ fits in
          let r = subst (λ (n : ℕ). T (not (eqb n 1) || within (suc least_message) most_data (length b) && eqb (get_or b id_size 0) (length b - suc id_size))) e or in
          within_low (suc least_message) most_data (length b) (left (within (suc least_message) most_data (length b)) (eqb (get_or b id_size 0) (length b - suc id_size)) r);
    }

unsingle_ok : (flags : ℕ) (r : Rec) → ToSend flags most_data r → suc least_message ≤ length r.bytes → ToSend flags iso_data (un_single r)
unfolding un_single
unsingle_ok flags r q h =
    let b : List ℕ = r.bytes in
    let most = q.fit.most in
    let l4 : length (take id_size b) ≡ id_size = length-take-le id_size b (omega arith) in
    let l5 = length-drop (suc id_size) b in
    let l = length-append (take id_size b) (drop (suc id_size) b) in
    record {
      flag = q.flag;
      fit =
          record {
            least = omega arith;
            most = omega arith;
            bytes = all_append is_byte (take id_size b) (drop (suc id_size) b) (all_take is_byte id_size b q.fit.bytes) (all_drop is_byte (suc id_size) b q.fit.bytes);
            identifier = subst (λ (k : ℕ). k ≤ id_limit (bit 0x100 r.tx)) (sym (id_front b (drop (suc id_size) b) (omega arith))) q.fit.identifier;
            width = q.fit.width;
          };
      no_status = refl;
      no_stamp = refl;
    }

pub record LandedOk (flags : ℕ) (ts : Slots Talk) (ms : List Rec) : Type 0 where
  pub one : Option Talk
  pub two : Option Talk
  pub talks_are : ts ≡ one ∷ two ∷ []
  pub one_ok : PlaceOk flags one
  pub two_ok : PlaceOk flags two
  pub linked_ok : Linked one two none
  pub messages_ok : Each (ToSend flags iso_data) ms

module _ (flags : ℕ) (a b : Option Talk) (f : Flight) (l : Linked a b (some f)) (pa : PlaceOk flags a) (pb : PlaceOk flags b) (k : FlightOk flags f) where
  -- where neither flies
  unlinked : (T (flies_in a) → ⊥) → (T (flies_in b) → ⊥) → Linked a b none
  unfolding flight_fits
  unlinked p q = record { apart = l.apart; one = l.one; owner = tt; first = λ t. absurd (p t); second = λ t. absurd (q t) }

  first_owned : T (flies_in a) → owner_parts f.owner ≡ 2
  unfolding owned_by
  first_owned t = eqb→eq (owner_parts f.owner) (0 + 2) (l.first t)

  second_owned : T (flies_in b) → owner_parts f.owner ≡ 3
  unfolding owned_by
  second_owned t = eqb→eq (owner_parts f.owner) (1 + 2) (l.second t)

  abbrev sent_talk : Talk → Transfer
  sent_talk c = sent_of c.transfer

  turned_place : (x : Option Talk) → PlaceOk flags x → PlaceOk flags (turned_slot sent_talk x)
  unfolding turned_slot
  turned_place none o = tt
  turned_place (some c) o = sent_ok flags c o c.transfer refl

  still_place : (x : Option Talk) → T (flies_in (turned_slot sent_talk x)) → ⊥
  unfolding turned_slot flies_in transmits_in airborne_at turned
  still_place none t = t
  still_place (some c) t = grounded c.transfer t

  less_place : (x : Option Talk) → T (transmits_in (turned_slot sent_talk x)) → T (transmits_in x)
  unfolding turned_slot transmits_in turned
  less_place none t = t
  less_place (some c) t = sent_transmits c.transfer t

  same_first : (x y : Option Talk) → T (not (knows_other x (y ∷ []))) → T (not (knows_other (turned_slot sent_talk x) (y ∷ [])))
  unfolding turned_slot knows_other turned
  same_first none y t = t
  same_first (some c) y t = t

  same_second : (x y : Option Talk) → T (not (knows_other x (y ∷ []))) → T (not (knows_other x (turned_slot sent_talk y ∷ [])))
  unfolding turned_slot
  same_second x none t = t
  same_second x (some d) t = knows_turned x d (sent_talk d) t

  pub landed_ok : (w : Owner) → f.owner ≡ w → LandedOk flags (landed_talks w (a ∷ b ∷ [])) (messages_done f w (a ∷ b ∷ []))
  unfolding landed_talks messages_done turn_at flight_fits
  landed_ok nobody e =
      record {
        one = a;
        two = b;
        talks_are = refl;
        one_ok = pa;
        two_ok = pb;
        linked_ok = unlinked (λ t. let h = first_owned t in let g = ap owner_parts e in omega arith) (λ t. let h = second_owned t in let g = ap owner_parts e in omega arith);
        messages_ok = tt;
      }
  landed_ok message e =
      record {
        one = a;
        two = b;
        talks_are = refl;
        one_ok = pa;
        two_ok = pb;
        linked_ok = unlinked (λ t. let h = first_owned t in let g = ap owner_parts e in omega arith) (λ t. let h = second_owned t in let g = ap owner_parts e in omega arith);
        messages_ok = (unsingle_ok flags f.frame k.sendable (k.single (ap owner_parts e)), tt);
      }
  landed_ok (transfer_at zero) e =
      record {
        one = turned_slot sent_talk a;
        two = b;
        talks_are = refl;
        one_ok = turned_place a pa;
        two_ok = pb;
        linked_ok =
            record {
              apart = same_first a b l.apart;
              one =
                  deny (transmits_in (turned_slot sent_talk a) && transmits_in b)
                  (λ t. never (transmits_in a && transmits_in b) l.one (join (transmits_in a) (transmits_in b) (less_place a (left (transmits_in (turned_slot sent_talk a)) (transmits_in b) t)) (right (transmits_in (turned_slot sent_talk a)) (transmits_in b) t)));
              owner = tt;
              first = λ t. absurd (still_place a t);
              second = λ t. absurd (let h = second_owned t in let g = ap owner_parts e in omega arith);
            };
        messages_ok = place_done flags a pa;
      }
  landed_ok (transfer_at (suc zero)) e =
      record {
        one = a;
        two = turned_slot sent_talk b;
        talks_are = refl;
        one_ok = pa;
        two_ok = turned_place b pb;
        linked_ok =
            record {
              apart = same_second a b l.apart;
              one =
                  deny (transmits_in a && transmits_in (turned_slot sent_talk b))
                  (λ t. never (transmits_in a && transmits_in b) l.one (join (transmits_in a) (transmits_in b) (left (transmits_in a) (transmits_in (turned_slot sent_talk b)) t) (less_place b (right (transmits_in a) (transmits_in (turned_slot sent_talk b)) t))));
              owner = tt;
              first = λ t. absurd (let h = first_owned t in let g = ap owner_parts e in omega arith);
              second = λ t. absurd (still_place b t);
            };
        messages_ok = place_done flags b pb;
      }
  landed_ok (transfer_at (suc (suc j))) e = absurd (let g = ap owner_parts e in let h = k.few in omega arith)
