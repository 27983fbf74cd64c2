-- An ISO 15765 channel keeps what its region can hold, whatever reaches it: each call, a connect, a frame, an advance, a close. Assumes nothing.
use Rattle.std.specs.Prelude.{if◌then◌else◌}
use mathlib.Core.Path.{◌≡◌, refl, sym, ◌∙◌, subst}
use Prim.Native.Nat.{ℕ, zero, suc, ◌+◌, ◌*◌, ◌-◌, ◌^◌, ◌≤◌, ◌<◌, min}
use native.Mathlib.Omega.{arith}
use mathlib.Core.Bool.{Bool, true, false, ◌&&◌, ◌||◌, not, beq}
use mathlib.Core.Option.{Option, none, some}
use mathlib.Core.List.{List, [], ◌∷◌, ◌++◌, map}
use lib.ListN.{length, get_or, set, drop, length-drop}
use lib.Seq.{length-take-le}
use lib.Dec.{T, eqb, leb, eqb→eq, nleb→lt, nltb→le, eqb_refl}
use Rattle.codec.specs.Plain.{within, member, all, is_byte}
use Rattle.codec.specs.Code.{Code, byte, both, via, such, slot, up_to}
use Rattle.codec.proofs.Tests.{left, right, join, or_either, or_left, or_right, within_low, within_high}
use Rattle.codec.proofs.Lists.{all_drop}
use Rattle.codec.proofs.Many.{up_to_make, up_to_more, up_to_drop}
use Rattle.machine.specs.Codes.{code_of}
use Rattle.machine.specs.Limits.{most_bytes, most_advance, data_in}
use Rattle.machine.specs.Message.{id_of, id_limit, takes, Rec, size_of, wide_of, data_of, clean}
use Rattle.machine.specs.Filter.{Slots, free, has, taken, any_slot}
use Rattle.machine.specs.Channel.{Config, Receiving, Call, disconnect, start_filter, start_flow, stop_filter, start_periodic, stop_periodic, write, read, take_next, sent, clear, get_parameter, set_parameter, last_error, get_list, set_list, on_raw, says, frame_code, is_flags, unless_stopped, list_code}
use Rattle.machine.specs.Step.{Event, connect, call, frame, advance, close}
use Rattle.iso.specs.Limits.{most_talks, most_messages, most_heard, iso_data, iso_record_size, least_message}
use Rattle.iso.specs.Step.{iso_step}
use Rattle.iso.proofs.Fair.{ready_codes}
use Rattle.iso.specs.Iso.{Transfer, idle, Talk, Owner, nobody, message, transfer_at, Flight, OpenIso, Iso, shut, ready, IsoOutcome, no_talks, set_talks, set_config, set_written, set_flight, set_receiving, set_last, turned, turned_slot, turn_each, news, shorter_iso, unless_iso, did, arrive_iso, becomes, heard, transmitting, airborne_at, owner_in, flight_in, with_talks, on_iso_frame, later_transfer, on_iso_advance, knows, talk_code, talk_of, on_start_talk, on_stop_talk, iso_message_code, iso_write_code, iso_writing, on_iso_write, Chosen, choice, on_chosen, iso_taking, on_iso_take, landed_talks, messages_done, iso_sending, iso_reading, on_iso_read, on_iso_clear, on_iso_get, iso_set_to, on_iso_set, on_iso_get_list, on_iso_set_list, iso_connect_code, fresh_iso, on_iso_connect, on_ready, on_iso_call, iso_codes, iso_notes, iso_noted, iso_noted_in_use}
use Rattle.iso_layout.specs.Sizes.{iso_region_size}
use Rattle.iso_layout.specs.Region.{message_cell, frame_cell, owned_fits, heard_cell, segments_in, flight_code, iso_last_part, transmits_in, knows_other, owner_fits, flies_in, flight_fits, iso_region}
use Rattle.layout.specs.Memory.{config}
use Rattle.layout.specs.Reach.{CallBytes, Bytes}
use Rattle.machine.proofs.Tables.{by_test, Failed, Telling, failed, by_code, own_code, yes}
use Rattle.layout.proofs.Held.{config_make, raw_flags, plain_silent}
use Rattle.layout.proofs.Calls.{data_bytes, Known, config_set, config_set_all}
use Rattle.iso_layout.proofs.Sizes.{iso_region_size_law}
use Rattle.iso_layout.proofs.Lawful.{iso_region_lawful}
use Rattle.iso_layout.proofs.Held.{sending_make, TalkOk, last_make}
use Rattle.iso_layout.proofs.Good.{FineIso, fine_shut, fli, PlaceOk, Linked, GoodIso, good_iso, iso_good, Less, gone, turns, not_more, less_linked}
use Rattle.iso_layout.proofs.Hearing.{no_segment, HeardOk, heard_ok, later_ok, place_turned, place_less, news_ok, arrive_ok}
use Rattle.iso_layout.proofs.Taking.{MayChoose, choice_ok, FlightOk, flight_sound, LandedOk, landed_ok, dones_ok}

-- ---- outcomes

abbrev Left : IsoOutcome → Type 0
Left x = FineIso x.0

unless_fine : (ts : List (Bool × ℕ)) (c : Iso) (b : List ℕ) (x : IsoOutcome) → Telling ts → FineIso c → (Failed ts → Left x) → Left (unless_iso (code_of ts) c b x)
unfolding unless_iso
unless_fine ts c b x u t f = by_code (λ (k : ℕ). Left (unless_iso k c b x)) ts u f (λ k. t)

-- ---- messages that a caller lends

long_enough : (b : List ℕ) (n : ℕ) → T (not (shorter_iso b n)) → iso_record_size * n ≤ length b
unfolding shorter_iso
long_enough b n t = nltb→le (length b) (iso_record_size * n) t

data_long : (m : List ℕ) → iso_record_size ≤ length m → size_of m ≤ iso_data → length (data_of m) ≡ size_of m
unfolding data_of
data_long m h k = length-take-le (size_of m) (drop data_in m) (omega (arith, length-drop data_in m))

clean_ok : (flags : ℕ) (m : List ℕ) → iso_record_size ≤ length m → T (all is_byte m) → iso_message_code flags m ≡ 0 → T ((message_cell flags).ok (clean m))
unfolding iso_message_code clean message_cell
clean_ok flags m h t e =
    let f = failed _ tt e in
    let size : T (within least_message iso_data (size_of m)) = search yes in
    let width : T (takes flags (wide_of m)) = search yes in
    let id : id_of (data_of m) ≤ id_limit (wide_of m) = search nltb→le in
    let low : least_message ≤ size_of m = search within_low in
    let high : size_of m ≤ iso_data = search within_high in
    let l = data_long m h high in
    sending_make flags iso_data (omega arith) (wide_of m) (data_of m) (record { least = omega arith; most = omega arith; bytes = data_bytes m t; identifier = id; width = width })

pub writing_ok : (flags : ℕ) (ts : Slots Talk) (n : ℕ) (b : List ℕ) (held : List Rec) (count : ℕ) → iso_record_size * n ≤ length b → T (all is_byte b) → T ((up_to most_messages (message_cell flags)).ok held)
    → T ((up_to most_messages (message_cell flags)).ok (iso_writing flags ts n b held count).held)
unfolding iso_writing iso_write_code unless_stopped
writing_ok flags ts zero b held count h t u = u
writing_ok flags ts (suc n) b held count h t u =
    let m : ℕ = iso_message_code flags b in
    by_code (λ (k : ℕ). T ((up_to most_messages (message_cell flags)).ok (unless_stopped k held count (iso_writing flags ts n (drop iso_record_size b) (held ++ clean b ∷ []) (count + 1))).held)) _
    (join (not (eqb m 0 && not (eqb m 0))) _ (own_code m) tt)
    (λ f.
    writing_ok flags ts n (drop iso_record_size b) (held ++ clean b ∷ []) (count + 1) (omega (arith, length-drop iso_record_size b)) (all_drop is_byte iso_record_size b t)
    (up_to_more most_messages (message_cell flags) held (clean b) u (nleb→lt most_messages (length held) f.1.1.0) (clean_ok flags b (omega arith) t (eqb→eq m 0 (yes (eqb m 0) f.0)))))
    (λ k. u)

-- ---- a flight whose owner is gone

data Gone : Owner → Owner → Type 0 where
  stays : {w : Owner} → Gone w w
  leaves : {w : Owner} → Gone w nobody

owner_or : (ts : Slots Talk) (w : Owner) → Gone w (owner_in ts w)
unfolding owner_in
owner_or ts nobody = stays
owner_or ts message = stays
owner_or ts (transfer_at k) = go (airborne_at (get_or ts k none))
  where
    go : (g : Bool) → Gone (transfer_at k) (if g then transfer_at k else nobody)
    go true = stays
    go false = leaves

owner_may : (flags : ℕ) (r : Rec) {w v : Owner} → Gone w v → T ((flight_code flags).ok (record { frame = r; owner = w })) → T ((flight_code flags).ok (record { frame = r; owner = v }))
unfolding flight_code via such both owned_fits byte
owner_may flags r stays t = t
owner_may flags r leaves t = let cell : T ((frame_cell flags).ok r) = search (left, right) in search join

-- ---- with other parts

nil_ok : {A : Type 0} (n : ℕ) (c : Code A) → T ((up_to n c).ok [])
nil_ok n c = up_to_make n c [] (omega arith) tt

module _ (o : OpenIso) (g : GoodIso o) where
  -- all parts but the configuration
  put_parts : {ts : Slots Talk} (a b : Option Talk) → ts ≡ a ∷ b ∷ [] → PlaceOk (fli o) a → PlaceOk (fli o) b → {ws : List Rec} → T ((up_to most_messages (message_cell (fli o))).ok ws)
      → {f : Option Flight} → T ((slot (flight_code (fli o))).ok f) → Linked a b f → {r : Receiving} → T ((up_to most_heard (heard_cell (fli o))).ok r.queue) → {k : ℕ} → T (iso_last_part.ok k)
      → GoodIso (record { config = o.config; talks = ts; written = ws; flight = f; receiving = r; last = k })
  put_parts a b e pa pb w f l q k =
      record {
        config_ok = g.config_ok;
        one = a;
        two = b;
        talks_are = e;
        one_ok = pa;
        two_ok = pb;
        written_ok = w;
        flight_ok = f;
        queue_ok = q;
        last_ok = k;
        linked_ok = l;
        no_listener = g.no_listener;
      }

  put_written : (ws : List Rec) → T ((up_to most_messages (message_cell (fli o))).ok ws) → FineIso (ready (set_written o ws))
  unfolding set_written
  put_written ws t = good_iso _ (put_parts _ _ g.talks_are g.one_ok g.two_ok t g.flight_ok g.linked_ok g.queue_ok g.last_ok)

  put_receiving : (r : Receiving) → T ((up_to most_heard (heard_cell (fli o))).ok r.queue) → FineIso (ready (set_receiving o r))
  unfolding set_receiving
  put_receiving r t = good_iso _ (put_parts _ _ g.talks_are g.one_ok g.two_ok g.written_ok g.flight_ok g.linked_ok t g.last_ok)

  put_last : (k : ℕ) → T (iso_last_part.ok k) → FineIso (ready (set_last o k))
  unfolding set_last
  put_last k t = good_iso _ (put_parts _ _ g.talks_are g.one_ok g.two_ok g.written_ok g.flight_ok g.linked_ok g.queue_ok t)

  -- a configuration of the same flags
  put_config : (r : ℕ) (l : Bool) → T (config.ok (record { flags = fli o; rate = r; loopback = l })) → FineIso (ready (set_config o (record { flags = fli o; rate = r; loopback = l })))
  unfolding set_config
  put_config r l t =
      good_iso _
      (record {
        config_ok = t;
        one = g.one;
        two = g.two;
        talks_are = g.talks_are;
        one_ok = g.one_ok;
        two_ok = g.two_ok;
        written_ok = g.written_ok;
        flight_ok = g.flight_ok;
        queue_ok = g.queue_ok;
        last_ok = g.last_ok;
        linked_ok = g.linked_ok;
        no_listener = g.no_listener;
      })

  put_set : (r : ℕ × Config) → T (config.ok r.1) × (r.1.flags ≡ fli o) → Left (iso_set_to o r)
  unfolding iso_set_to
  put_set r k =
      let same : r.1 ≡ record { flags = fli o; rate = r.1.rate; loopback = r.1.loopback } = λ j. record { flags = k.1 j; rate = r.1.rate; loopback = r.1.loopback } in
      subst (λ (c : Config). FineIso (ready (set_config o c))) (sym same) (put_config r.1.rate r.1.loopback (subst (λ (c : Config). T (config.ok c)) same k.0))

  -- the flight stays in the air, whatever becomes of its owner
  flight_still : (ts : Slots Talk) (f : Option Flight) → T ((slot (flight_code (fli o))).ok f) → T ((slot (flight_code (fli o))).ok (flight_in ts f))
  unfolding slot flight_in
  flight_still ts none t = t
  flight_still ts (some f) t = owner_may (fli o) f.frame (owner_or ts f.owner) t

  -- other conversations, out of the old ones
  put_talks : (a b : Option Talk) → PlaceOk (fli o) a → PlaceOk (fli o) b → Less g.one a → Less g.two b → (r : Receiving) → T ((up_to most_heard (heard_cell (fli o))).ok r.queue)
      → FineIso (ready (set_receiving (with_talks o (a ∷ b ∷ [])) r))
  unfolding set_receiving with_talks set_flight set_talks
  put_talks a b pa pb la lb r t =
      good_iso _ (put_parts a b refl pa pb g.written_ok (flight_still (a ∷ b ∷ []) o.flight g.flight_ok) (less_linked g.linked_ok la lb) t g.last_ok)

  -- take
  fine_chosen : (x : Option Chosen) (b : List ℕ) → MayChoose (fli o) x → Left (on_chosen o x b)
  unfolding on_chosen set_flight set_written set_talks slot
  fine_chosen none b m = good_iso o g
  fine_chosen (some x) b m = good_iso _ (put_parts _ _ m.talks_are m.one_ok m.two_ok m.written_ok m.flight_ok m.linked_ok g.queue_ok g.last_ok)

  fine_taking : (f : Option Flight) → o.flight ≡ f → (b : List ℕ) → Left (iso_taking o f b)
  unfolding iso_taking
  fine_taking (some f) e b = good_iso o g
  fine_taking none e b =
      let l : Linked g.one g.two none = subst (Linked g.one g.two) e g.linked_ok in
      fine_chosen _ b
      (subst (λ (ts : Slots Talk). MayChoose (fli o) (choice ts o.written)) (sym g.talks_are) (choice_ok (fli o) g.one g.two l g.one_ok g.two_ok o.written g.written_ok))

  -- sent
  fine_sending : (now : ℕ) → now < 2 ^ 32 → (f : Option Flight) → o.flight ≡ f → Left (iso_sending now o f)
  unfolding iso_sending did set_receiving set_flight set_talks slot
  fine_sending now h none e = good_iso o g
  fine_sending now h (some f) e =
      let l : Linked g.one g.two (some f) = subst (Linked g.one g.two) e g.linked_ok in
      let k : FlightOk (fli o) f = flight_sound (fli o) f (subst (λ (x : Option Flight). T ((slot (flight_code (fli o))).ok x)) e g.flight_ok) in
      let m : LandedOk (fli o) (landed_talks f.owner o.talks) (messages_done f f.owner o.talks) =
      subst (λ (ts : Slots Talk). LandedOk (fli o) (landed_talks f.owner ts) (messages_done f f.owner ts)) (sym g.talks_are)
      (landed_ok (fli o) g.one g.two f l g.one_ok g.two_ok k f.owner refl) in
      good_iso _
      (put_parts _ _ m.talks_are m.one_ok m.two_ok g.written_ok tt m.linked_ok
      (arrive_ok (fli o) o.receiving _ g.queue_ok (dones_ok (fli o) now h o.config.loopback _ m.messages_ok)) g.last_ok)

  -- frames and time: each conversation turns
  fine_turn : (f : Talk → Transfer) (news_of : Talk → List Rec) → ((c : Talk) → TalkOk (fli o) c → HeardOk (fli o) c (f c) (news_of c))
      → FineIso (ready (set_receiving (with_talks o (turn_each f o.talks)) (arrive_iso o.receiving (news news_of o.talks))))
  unfolding turn_each
  fine_turn f q k =
      subst (λ (ts : Slots Talk). FineIso (ready (set_receiving (with_talks o (map (turned_slot f) ts)) (arrive_iso o.receiving (news q ts))))) (sym g.talks_are)
      (put_talks (turned_slot f g.one) (turned_slot f g.two) (place_turned (fli o) f q k g.one g.one_ok) (place_turned (fli o) f q k g.two g.two_ok)
      (place_less (fli o) f q k g.one g.one_ok) (place_less (fli o) f q k g.two g.two_ok) (arrive_iso o.receiving (news q (g.one ∷ g.two ∷ [])))
      (arrive_ok (fli o) o.receiving _ g.queue_ok (news_ok (fli o) f q k g.one g.two g.one_ok g.two_ok)))

-- ---- filters

eqb_sym : (m n : ℕ) → T (eqb m n) → T (eqb n m)
eqb_sym m n t = subst (λ (k : ℕ). T (eqb k m)) (eqb→eq m n t) (eqb_refl m)

beq_sym : (a b : Bool) → T (beq a b) → T (beq b a)
beq_sym true true t = t
beq_sym true false t = t
beq_sym false true t = t
beq_sym false false t = t

-- two conversations share an identifier, whichever is asked
knows_sym : (c d : Talk) → T (knows c.wide c.pattern c.flow d) → T (knows d.wide d.pattern d.flow c)
unfolding knows member
knows_sym c d t =
    let w = beq_sym c.wide d.wide (left (beq c.wide d.wide) _ t) in
    let some_one = right (beq c.wide d.wide) _ t in
    let p : ℕ = c.pattern in
    let f : ℕ = c.flow in
    let p' : ℕ = d.pattern in
    let f' : ℕ = d.flow in
    join (beq d.wide c.wide) _ w
    (or_either (eqb p p' || (eqb p f' || false)) (eqb f p' || (eqb f f' || false))
    (or_either (eqb p p') (eqb p f' || false) (λ u. or_left (eqb p' p || (eqb p' f || false)) _ (or_left (eqb p' p) _ (eqb_sym p p' u)))
    (or_either (eqb p f') false (λ u. or_right (eqb p' p || (eqb p' f || false)) (eqb f' p || (eqb f' f || false)) (or_left (eqb f' p) _ (eqb_sym p f' u))) (λ u. absurd u)))
    (or_either (eqb f p') (eqb f f' || false)
    (λ u. or_left (eqb p' p || (eqb p' f || false)) _ (or_right (eqb p' p) (eqb p' f || false) (or_left (eqb p' f) false (eqb_sym f p' u))))
    (or_either (eqb f f') false
    (λ u. or_right (eqb p' p || (eqb p' f || false)) (eqb f' p || (eqb f' f || false)) (or_right (eqb f' p) (eqb f' f || false) (or_left (eqb f' f) false (eqb_sym f f' u)))) (λ u. absurd u)))
    some_one)

-- a flight's owner is another place than an empty one
module _ (n : Talk) where
  owner_first : (b : Option Talk) (f : Option Flight) → T (flight_fits (none ∷ b ∷ []) f) → T (flight_fits (some n ∷ b ∷ []) f)
  unfolding flight_fits owner_fits airborne_at
  owner_first b none t = tt
  owner_first b (some f) t = go f.owner t
    where
      go : (w : Owner) → T (owner_fits (none ∷ b ∷ []) w) → T (owner_fits (some n ∷ b ∷ []) w)
      go nobody t = tt
      go message t = tt
      go (transfer_at zero) t = absurd t
      go (transfer_at (suc k)) t = t

  owner_second : (a : Option Talk) (f : Option Flight) → T (flight_fits (a ∷ none ∷ []) f) → T (flight_fits (a ∷ some n ∷ []) f)
  unfolding flight_fits owner_fits airborne_at
  owner_second a none t = tt
  owner_second a (some f) t = go f.owner t
    where
      go : (w : Owner) → T (owner_fits (a ∷ none ∷ []) w) → T (owner_fits (a ∷ some n ∷ []) w)
      go nobody t = tt
      go message t = tt
      go (transfer_at zero) t = t
      go (transfer_at (suc zero)) t = absurd t
      go (transfer_at (suc (suc k))) t = t

module _ (o : OpenIso) (g : GoodIso o) (n : Talk) (ok : TalkOk (fli o) n) (rests : n.transfer ≡ idle) where
  quiet_new : T (transmits_in (some n)) → ⊥
  unfolding transmits_in transmitting
  quiet_new t = subst (λ (x : Transfer). T (transmitting x)) rests t

  -- a new conversation in the first free place
  put_new : (a b : Option Talk) → g.one ≡ a → g.two ≡ b → T (not (any_slot (knows n.wide n.pattern n.flow) (a ∷ b ∷ []))) → T (not (leb most_talks (free (a ∷ b ∷ []))))
      → FineIso (ready (set_talks o (set (a ∷ b ∷ []) (free (a ∷ b ∷ [])) (some n))))
  unfolding set_talks free any_slot knows_other flies_in
  put_new none b e e' u v =
      let l : Linked none b o.flight = subst (λ (x : Option Talk). Linked none x o.flight) e' (subst (λ (x : Option Talk). Linked x g.two o.flight) e g.linked_ok) in
      good_iso _
      (put_parts o g (some n) b refl ok (subst (PlaceOk (fli o)) e' g.two_ok) g.written_ok g.flight_ok
      (record {
        apart = u;
        one = not_more false (transmits_in (some n) && transmits_in b) (λ t. absurd (quiet_new (left (transmits_in (some n)) (transmits_in b) t))) tt;
        owner = owner_first n b o.flight l.owner;
        first = λ t. absurd (quiet_new (left (transmits_in (some n)) (airborne_at (some n)) t));
        second = l.second;
      })
      g.queue_ok g.last_ok)
  put_new (some c) none e e' u v =
      let l : Linked (some c) none o.flight = subst (λ (x : Option Talk). Linked (some c) x o.flight) e' (subst (λ (x : Option Talk). Linked x g.two o.flight) e g.linked_ok) in
      good_iso _
      (put_parts o g (some c) (some n) refl (subst (PlaceOk (fli o)) e g.one_ok) ok g.written_ok g.flight_ok
      (record {
        apart =
            not_more (knows n.wide n.pattern n.flow c || false) (knows c.wide c.pattern c.flow n || false)
            (λ t. or_either (knows c.wide c.pattern c.flow n) false (λ s. or_left (knows n.wide n.pattern n.flow c) false (knows_sym c n s)) (λ s. absurd s) t) u;
        one = not_more false (transmits_in (some c) && transmits_in (some n)) (λ t. absurd (quiet_new (right (transmits_in (some c)) (transmits_in (some n)) t))) tt;
        owner = owner_second n (some c) o.flight l.owner;
        first = l.first;
        second = λ t. absurd (quiet_new (left (transmits_in (some n)) (airborne_at (some n)) t));
      })
      g.queue_ok g.last_ok)
  put_new (some c) (some d) e e' u v = absurd v

turned_same : (c : Talk) → turned c c.transfer ≡ c
unfolding turned
turned_same c = refl

less_same : (x : Option Talk) → Less x x
less_same none = gone
less_same (some c) = subst (λ (d : Talk). Less (some c) (some d)) (turned_same c) (turns c.transfer (λ t. t) (λ t. t))

module _ (o : OpenIso) (g : GoodIso o) where
  -- with no records told
  put_fewer : (a b : Option Talk) → PlaceOk (fli o) a → PlaceOk (fli o) b → Less g.one a → Less g.two b → FineIso (ready (with_talks o (a ∷ b ∷ [])))
  unfolding set_receiving with_talks set_flight set_talks
  put_fewer a b pa pb la lb = put_talks o g a b pa pb la lb o.receiving g.queue_ok

  stop_talk : (n : ℕ) → T (has (g.one ∷ g.two ∷ []) n) → FineIso (ready (with_talks o (set (g.one ∷ g.two ∷ []) (n - 1) none)))
  unfolding has taken
  stop_talk zero t = absurd t
  stop_talk (suc zero) t = put_fewer none g.two tt g.two_ok gone (less_same g.two)
  stop_talk (suc (suc zero)) t = put_fewer g.one none g.one_ok tt (less_same g.one) gone
  stop_talk (suc (suc (suc n))) t = absurd t

  start_talk : (t : ℕ) (m p f : List ℕ) → T (all is_byte m) → T (all is_byte p) → T (all is_byte f) → Left (on_start_talk o t m p f)
  unfolding on_start_talk talk_code talk_of did segments_in
  start_talk t m p f bm bp bf =
      unless_fine _ (ready o) [] _ tt (good_iso o g)
      (λ k.
      let width : T (takes (fli o) (wide_of m)) = search yes in
      let pattern_in : id_of (data_of p) ≤ id_limit (wide_of m) = search nltb→le in
      let flow_in_law : id_of (data_of f) ≤ id_limit (wide_of m) = search nltb→le in
      let apart : T (not (any_slot (knows (wide_of m) (id_of (data_of p)) (id_of (data_of f))) o.talks)) = k.1.1.1.1.1.1.1.1.1.1.1.0 in
      let room : T (not (leb most_talks (free o.talks))) = k.1.1.1.1.1.1.1.1.1.1.1.1.0 in
      let n : Talk = record { wide = wide_of m; pattern = id_of (data_of p); flow = id_of (data_of f); transfer = idle } in
      let ok : TalkOk (fli o) n = record { width = width; pattern_in = pattern_in; flow_in_law = flow_in_law; plain = no_segment (eqb (id_of (data_of p)) (id_of (data_of f))); transfer_ok = tt } in
      subst (λ (ts : Slots Talk). FineIso (ready (set_talks o (set ts (free ts) (some n))))) (sym g.talks_are)
      (put_new o g n ok refl g.one g.two refl refl
      (subst (λ (ts : Slots Talk). T (not (any_slot (knows (wide_of m) (id_of (data_of p)) (id_of (data_of f))) ts))) g.talks_are apart)
      (subst (λ (ts : Slots Talk). T (not (leb most_talks (free ts)))) g.talks_are room)))

-- ---- every call

module _ (rates : List ℕ) (known : Known rates) (now : ℕ) (h : now < 2 ^ 32) where
  fine_ready : (o : OpenIso) → GoodIso o → (x : Call) → CallBytes x → Left (on_ready rates now o x)
  unfolding on_ready on_stop_talk on_iso_write on_iso_read iso_reading on_iso_take on_iso_clear on_iso_get on_iso_set list_code on_iso_get_list on_iso_set_list did no_talks
  fine_ready o g disconnect b = fine_shut
  fine_ready o g (start_filter t m p) b = start_talk o g t m p [] b.0 b.1 tt
  fine_ready o g (start_flow t m p f) b = start_talk o g t m p f b.0 b.1.0 b.1.1
  fine_ready o g (stop_filter n) b =
      unless_fine _ (ready o) [] _ tt (good_iso o g)
      (λ f.
      let t : T (has o.talks n) = yes (has o.talks n) f.0 in
      subst (λ (ts : Slots Talk). FineIso (ready (with_talks o (set ts (n - 1) none)))) (sym g.talks_are) (stop_talk o g n (subst (λ (ts : Slots Talk). T (has ts n)) g.talks_are t)))
  fine_ready o g (start_periodic m i) b = good_iso o g
  fine_ready o g (stop_periodic n) b = good_iso o g
  fine_ready o g (write n m) b =
      unless_fine _ (ready o) [] _ tt (good_iso o g) (λ f. put_written o g _ (writing_ok (fli o) o.talks n m o.written 0 (long_enough m n f.0) b g.written_ok))
  fine_ready o g (read n m) b =
      let k : ℕ = min n (length o.receiving.queue) in
      unless_fine _ (ready o) m _ tt (good_iso o g)
      (λ f.
      by_test Left (eqb n 0) (ready o, says 0x00 0 m) (iso_reading o n m k) (λ z. good_iso o g)
      (put_receiving o g _ (up_to_drop most_heard (heard_cell (fli o)) k o.receiving.queue g.queue_ok)))
  fine_ready o g (take_next m) b = unless_fine _ (ready o) m _ tt (good_iso o g) (λ f. fine_taking o g o.flight refl m)
  fine_ready o g sent b = fine_sending o g now h o.flight refl
  fine_ready o g (clear k) b =
      by_test Left (eqb k 1) _ _ (λ t. put_written o g [] (nil_ok most_messages _))
      (by_test Left (eqb k 2) _ _ (λ t. put_receiving o g _ (nil_ok most_heard _))
      (by_test Left (eqb k 3) _ _ (λ t. good_iso o g)
      (by_test Left (eqb k 4) _ _ (λ t. put_fewer o g none none tt tt gone gone) (good_iso o g))))
  fine_ready o g (get_parameter p) b = good_iso o g
  fine_ready o g (set_parameter p v) b = put_set o g _ (config_set rates known now h o.config g.config_ok p v)
  fine_ready o g last_error b = good_iso o g
  fine_ready o g (get_list ps) b = unless_fine _ (ready o) _ _ tt (good_iso o g) (λ f. good_iso o g)
  fine_ready o g (set_list ps) b = unless_fine _ (ready o) [] _ tt (good_iso o g) (λ f. put_set o g _ (config_set_all rates known now h o.config g.config_ok ps))
  fine_ready o g (on_raw x) b = good_iso o g

  pub fine_fresh : (flags rate : ℕ) → T (is_flags flags) → T (member rate rates) → FineIso (ready (fresh_iso flags rate))
  unfolding fresh_iso no_talks slot knows_other transmits_in flies_in flight_fits
  fine_fresh flags rate f r =
      good_iso _
      (record {
        config_ok = config_make _ (raw_flags flags f) (known rate r);
        one = none;
        two = none;
        talks_are = refl;
        one_ok = tt;
        two_ok = tt;
        written_ok = nil_ok most_messages (message_cell flags);
        flight_ok = tt;
        queue_ok = nil_ok most_heard (heard_cell flags);
        last_ok = last_make 0x00 (unfold member iso_codes in tt);
        linked_ok = record { apart = tt; one = tt; owner = tt; first = λ t. absurd t; second = λ t. absurd t };
        no_listener = plain_silent flags f;
      })

  fine_connect : (c : Iso) → FineIso c → (l p f r : ℕ) → Left (on_iso_connect rates c l p f r)
  unfolding on_iso_connect did iso_connect_code
  fine_connect c t l p f r = unless_fine _ c [] _ tt t (λ k. fine_fresh f r (yes (is_flags f) k.1.0) (yes (member r rates) k.1.1.0))

  fine_frame : (o : OpenIso) → GoodIso o → (w n : ℕ) (b : List ℕ) → T (all is_byte b) → FineIso (on_iso_frame now (ready o) w n b)
  unfolding on_iso_frame frame_code
  fine_frame o g w n b t =
      by_test FineIso (eqb (frame_code w n b) 0x00) _ _
      (λ k.
      let f = failed _ tt (eqb→eq (frame_code w n b) 0 k) in
      let few : length b ≤ most_bytes = nltb→le most_bytes (length b) f.1.1.0 in
      fine_turn o g (λ c. (heard now (eqb w 1) n b c).transfer) (λ c. (heard now (eqb w 1) n b c).records) (λ c ok. heard_ok (fli o) now h c ok b few t (eqb w 1) n))
      (good_iso o g)

  fine_advance : (o : OpenIso) → GoodIso o → (u : ℕ) → FineIso (on_iso_advance u (ready o))
  unfolding on_iso_advance set_receiving with_talks set_flight set_talks arrive_iso news becomes
  fine_advance o g u =
      by_test FineIso (leb u most_advance) _ _
      (λ k.
      subst (λ (r : Receiving). FineIso (ready (set_receiving (with_talks o (turn_each (λ c. later_transfer u c.transfer) o.talks)) r))) (nothing o.talks)
      (fine_turn o g (λ c. later_transfer u c.transfer) (λ c. []) (λ c ok. later_ok (fli o) now h c ok u c.transfer refl)))
      (good_iso o g)
    where
      nothing : (ts : Slots Talk) → arrive_iso o.receiving (news (λ c. []) ts) ≡ o.receiving
      nothing [] = refl
      nothing (none ∷ ts) = nothing ts
      nothing (some c ∷ ts) = nothing ts

-- ---- what a channel notes

-- a code that a call can give
pub fine_iso_notes : (k : ℕ) → T (member k iso_codes) → (c : Iso) → FineIso c → FineIso (iso_notes k c)
unfolding iso_notes
fine_iso_notes zero t c f = f
fine_iso_notes (suc k) t shut f = f
fine_iso_notes (suc k) t (ready o) f = put_last o (iso_good o f) (suc k) (last_make (suc k) t)

fine_in_use : (x : IsoOutcome) → Left x → Left (iso_noted_in_use x)
unfolding iso_noted_in_use iso_noted
fine_in_use x f =
    by_test Left (eqb x.1.code 0x14) (iso_noted x) x
    (λ t. fine_iso_notes x.1.code (subst (λ (k : ℕ). T (member k iso_codes)) (sym (eqb→eq x.1.code 0x14 t)) (unfold member iso_codes in tt)) x.0 f) f

-- ---- A CHANNEL KEEPS WHAT ITS REGION CAN HOLD, whatever reaches it

module _ (rates : List ℕ) (known : Known rates) (now : ℕ) (h : now < 2 ^ 32) where
  pub fine_iso_step : (c : Iso) → FineIso c → (e : Event) → Bytes e → FineIso (iso_step rates now c e).0
  unfolding iso_step on_iso_call on_iso_frame on_iso_advance iso_noted iso_notes says
  fine_iso_step c t (connect l p f r) b = fine_in_use (on_iso_connect rates c l p f r) (fine_connect rates known now h c t l p f r)
  fine_iso_step shut t (call k x) b = t
  fine_iso_step (ready o) t (call k x) b = fine_iso_notes (on_ready rates now o x).1.code (ready_codes rates now o x) (on_ready rates now o x).0 (fine_ready rates known now h o (iso_good o t) x b)
  fine_iso_step shut t (frame l w n m) b = t
  fine_iso_step (ready o) t (frame l w n m) b = fine_frame rates known now h o (iso_good o t) w n m b
  fine_iso_step shut t (advance u) b = t
  fine_iso_step (ready o) t (advance u) b = fine_advance rates known now h o (iso_good o t) u
  fine_iso_step c t close b = fine_shut

  -- in bytes: the region of what an event leaves of a channel is valid where the channel's was
  pub valid_after : (r : List ℕ) → length r ≡ iso_region_size → T (iso_region.valid r) → (e : Event) → Bytes e → T (iso_region.valid (iso_region.put (iso_step rates now (iso_region.get r) e).0))
  valid_after r long v e b = iso_region_lawful.valid_put _ (fine_iso_step (iso_region.get r) (iso_region_lawful.ok_get r (long ∙ sym iso_region_size_law) v) e b)
