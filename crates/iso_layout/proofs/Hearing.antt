-- A conversation keeps what its place can hold, whatever frame comes and however time passes, and tells only records that the queue can hold.
-- Assumes nothing.
use Rattle.std.specs.Prelude.{if◌then◌else◌}
use mathlib.Core.Path.{◌≡◌, refl, sym, ap, ◌∙◌, subst}
use Prim.Native.Nat.{ℕ, ◌+◌, ◌*◌, ◌-◌, ◌/◌, ◌%◌, ◌^◌, ◌≤◌, ◌<◌, min}
use native.Mathlib.Omega.{arith}
use mathlib.Core.Bool.{Bool, true, false, ◌&&◌, ◌||◌, not, beq}
use mathlib.Core.Option.{Option, none, some}
use mathlib.Core.List.{List, [], ◌∷◌, ◌++◌}
use lib.ListN.{length, get_or, take, drop, length-append, length-drop}
use lib.Seq.{length-take-le}
use lib.Dec.{T, eqb, leb, ltb, eqb→eq, leb→le, le→leb, ltb→lt, lt→ltb, nleb→lt, nltb→le, eqb_refl}
use Rattle.codec.specs.Plain.{within, member, all, is_byte}
use Rattle.codec.specs.Word.{word, word_at}
use Rattle.codec.specs.Code.{up_to}
use Rattle.codec.proofs.Tests.{left, right, join, or_left, or_right, within_low, within_high}
use Rattle.codec.proofs.Lists.{all_append, all_take, all_drop, all_at}
use Rattle.codec.proofs.Many.{up_to_more}
use Rattle.codec.proofs.Word.{word_back}
use Rattle.machine.specs.Message.{bit, width_flag, id_bytes, id_of, id_limit, takes, Rec, received}
use Rattle.machine.specs.Channel.{Receiving}
use Rattle.machine.specs.Limits.{most_bytes}
use Rattle.iso.specs.Limits.{most_heard, id_size, iso_data, least_message, most_payload, in_single, least_segmented, in_first, in_next, second, longest_gap}
use Rattle.iso.specs.Iso.{Reception, Stage, opens, awaits, flies, sends, Transmission, Transfer, idle, refuses, receives, transmits, Talk, turned, turned_slot, news, number_after, gap_of, arrive_iso, rx_start, arrived, Heard, becomes, ended, low, on_single, on_first, on_next, staged, on_flow, on_consecutive, on_flow_of, transmitting, listening, heard, airborne, later_stage, later_transfer}
use Rattle.iso_layout.specs.Region.{heard_cell, step_of7, is_gap, segments_in}
use Rattle.machine.proofs.Tables.{by_test, neither}
use Rattle.iso_layout.proofs.Held.{Fit, reading_make, telling_make, ReceptionOk, StageOk, TransmissionOk, TransferOk, TalkOk, id_small}
use Rattle.iso_layout.proofs.Good.{PlaceOk, Less, gone, turns}

-- a choice has what both of its sides have, each under its test
pub by_either : {A : Type 0} (P : A → Type 0) (g : Bool) (x y : A) → (T g → P x) → (T (not g) → P y) → P (if g then x else y)
by_either P true x y p q = p tt
by_either P false x y p q = q tt

-- ---- identifiers in front

byte_small : (k : ℕ) → T (is_byte (k % 256))
byte_small k = lt→ltb (k % 256) 256 (omega arith)

id_bytes_law : (n : ℕ) → T (all is_byte (id_bytes n))
unfolding id_bytes
id_bytes_law n = search (join, byte_small)

id_back : (n : ℕ) (b : List ℕ) → n < 2 ^ 32 → id_of (id_bytes n ++ b) ≡ n
unfolding id_of id_bytes word word_at
id_back n b h = omega (arith, word_back n h)

id_long : (n : ℕ) (b : List ℕ) → length (id_bytes n ++ b) ≡ id_size + length b
unfolding id_bytes
id_long n b = omega arith

-- an identifier of a conversation, with bytes behind it
pub framed_fit : (flags least most : ℕ) (wide : Bool) (n : ℕ) (b : List ℕ) → T (takes flags wide) → n ≤ id_limit wide → least ≤ id_size + length b → id_size + length b ≤ most → T (all is_byte b)
    → Fit flags least most wide (id_bytes n ++ b)
framed_fit flags least most wide n b w h lo hi t =
    let l = id_long n b in
    let i = id_back n b (id_small wide n h) in
    record { least = omega arith; most = omega arith; bytes = all_append is_byte (id_bytes n) b (id_bytes_law n) t; identifier = omega arith; width = w }

-- ---- records that are told

pub arrived_ok : (flags now : ℕ) → now < 2 ^ 32 → (c : Talk) → TalkOk flags c → (p : List ℕ) → 1 ≤ length p → length p ≤ most_payload → T (all is_byte p) → T (all (heard_cell flags).ok (arrived now c p))
unfolding arrived received width_flag bit member
arrived_ok flags now h c o p lo hi t =
    join ((heard_cell flags).ok _) true (go c.wide (framed_fit flags least_message iso_data c.wide c.pattern p o.width o.pattern_in (omega arith) (omega arith) t)) tt
  where
    go : (wide : Bool) → Fit flags least_message iso_data wide (id_bytes c.pattern ++ p) → T ((heard_cell flags).ok (record { rx = width_flag wide; tx = 0; time = now; bytes = id_bytes c.pattern ++ p }))
    go true f = reading_make flags now 0x100 (id_bytes c.pattern ++ p) h tt f
    go false f = reading_make flags now 0 (id_bytes c.pattern ++ p) h tt f

id_alone : (n : ℕ) → id_bytes n ++ [] ≡ id_bytes n
unfolding id_bytes
id_alone n = refl

start_ok : (flags now : ℕ) → now < 2 ^ 32 → (c : Talk) → TalkOk flags c → T (all (heard_cell flags).ok (rx_start now c))
unfolding rx_start received width_flag bit member
start_ok flags now h c o =
    join ((heard_cell flags).ok _) true (go c.wide (subst (Fit flags id_size id_size c.wide) (id_alone c.pattern) (framed_fit flags id_size id_size c.wide c.pattern [] o.width o.pattern_in (omega arith) (omega arith) tt))) tt
  where
    go : (wide : Bool) → Fit flags id_size id_size wide (id_bytes c.pattern) → T ((heard_cell flags).ok (record { rx = width_flag wide + 2; tx = 0; time = now; bytes = id_bytes c.pattern }))
    go true f = telling_make flags now 0x102 (id_bytes c.pattern) h tt f
    go false f = telling_make flags now 2 (id_bytes c.pattern) h tt f

-- ---- the steps of a payload, and the gaps

eq_T : (m n : ℕ) → m ≡ n → T (eqb m n)
eq_T m n e = subst (λ (k : ℕ). T (eqb m k)) e (eqb_refl m)

pub step_more : (n m : ℕ) → m ≡ n + in_next → T (step_of7 n) → T (step_of7 m)
unfolding step_of7
step_more n m e t =
    let lo : in_first ≤ n = leb→le in_first n (left (leb in_first n) _ t) in
    let q : (n + 1) % in_next ≡ 0 = eqb→eq ((n + 1) % in_next) 0 (right (leb in_first n) _ t) in
    join (leb in_first m) _ (le→leb in_first m (omega arith)) (eq_T ((m + 1) % in_next) 0 (omega arith))

gap_ms : (n : ℕ) → n % 1000 ≡ 0 → n ≤ longest_gap → T (is_gap n)
unfolding is_gap
gap_ms n e h = or_left (eqb (n % 1000) 0 && leb n longest_gap) (eqb (n % 100) 0 && ltb n 1000) (join (eqb (n % 1000) 0) (leb n longest_gap) (eq_T (n % 1000) 0 e) (le→leb n longest_gap h))

gap_µs : (n : ℕ) → n % 100 ≡ 0 → n < 1000 → T (is_gap n)
unfolding is_gap
gap_µs n e h = or_right (eqb (n % 1000) 0 && leb n longest_gap) (eqb (n % 100) 0 && ltb n 1000) (join (eqb (n % 100) 0) (ltb n 1000) (eq_T (n % 100) 0 e) (lt→ltb n 1000 h))

gap_ok : (v : ℕ) → T (is_gap (gap_of v))
unfolding gap_of
gap_ok v =
    by_test (λ (n : ℕ). T (is_gap n)) (leb v 0x7F) _ _ (λ t. let h = leb→le v 0x7F t in gap_ms (1000 * v) (omega arith) (omega arith))
    (by_test (λ (n : ℕ). T (is_gap n)) (within 0xF1 0xF9 v) _ _
    (λ t.
    let lo = within_low 0xF1 0xF9 v t in
    let hi = within_high 0xF1 0xF9 v t in
    gap_µs (100 * (v - 0xF0)) (omega arith) (omega arith))
    (gap_ms longest_gap refl (omega arith)))

-- ---- a frame

-- what becomes of a conversation can be held; it transmits and flies only where it did; and the records can be held
pub record HeardOk (flags : ℕ) (c : Talk) (x : Transfer) (rs : List Rec) : Type 0 where
  pub transfer_ok : TransferOk x
  pub plain : T (not (eqb c.pattern c.flow && segments_in x))
  pub transmits_still : T (transmitting x) → T (transmitting c.transfer)
  pub flies_still : T (transmitting x && airborne x) → T (transmitting c.transfer && airborne c.transfer)
  pub records_ok : T (all (heard_cell flags).ok rs)

pub no_segment : (p : Bool) → T (not (p && false))
no_segment true = tt
no_segment false = tt

module _ (flags now : ℕ) (h : now < 2 ^ 32) (c : Talk) (o : TalkOk flags c) where
  abbrev Says : Heard → Type 0
  Says x = HeardOk flags c x.transfer x.records

  -- it stays as it is, whatever it tells
  stays : (rs : List Rec) → T (all (heard_cell flags).ok rs) → Says (becomes c.transfer rs)
  unfolding becomes
  stays rs t = record { transfer_ok = o.transfer_ok; plain = o.plain; transmits_still = λ u. u; flies_still = λ u. u; records_ok = t }

  -- it is idle
  rests : (rs : List Rec) → T (all (heard_cell flags).ok rs) → Says (becomes idle rs)
  unfolding becomes segments_in transmitting
  rests rs t = record { transfer_ok = tt; plain = no_segment (eqb c.pattern c.flow); transmits_still = λ u. absurd u; flies_still = λ u. absurd u; records_ok = t }

  -- a reception ends
  ends : (x : Transfer) → c.transfer ≡ x → (rs : List Rec) → T (all (heard_cell flags).ok rs) → Says (becomes (ended x) rs)
  unfolding ended
  ends idle e rs t = rests rs t
  ends refuses e rs t = subst (λ (y : Transfer). Says (becomes y rs)) e (stays rs t)
  ends (receives r) e rs t = rests rs t
  ends (transmits y) e rs t = subst (λ (y : Transfer). Says (becomes y rs)) e (stays rs t)

  -- a transfer that receives or refuses, where pattern and flow differ
  segments : (x : Transfer) → T (not (transmitting x)) → TransferOk x → T (not (eqb c.pattern c.flow)) → (rs : List Rec) → T (all (heard_cell flags).ok rs) → Says (becomes x rs)
  unfolding becomes
  segments x n k d rs t =
      record {
        transfer_ok = k;
        plain = apart (eqb c.pattern c.flow) (segments_in x) d;
        transmits_still = λ u. absurd (never (transmitting x) n u);
        flies_still = λ u. absurd (never (transmitting x) n (left (transmitting x) (airborne x) u));
        records_ok = t;
      }
    where
      apart : (p q : Bool) → T (not p) → T (not (p && q))
      apart true q n = absurd n
      apart false q n = tt

      never : (p : Bool) → T (not p) → T p → ⊥
      never true n u = n
      never false n u = u

  module _ (b : List ℕ) (few : length b ≤ most_bytes) (bytes : T (all is_byte b)) where
    part_bytes : (n k : ℕ) → T (all is_byte (take n (drop k b)))
    part_bytes n k = all_take is_byte n (drop k b) (all_drop is_byte k b bytes)

    part_long : (n k : ℕ) → n + k ≤ length b → length (take n (drop k b)) ≡ n
    part_long n k q = length-take-le n (drop k b) (omega (arith, length-drop k b))

    single_ok : Says (on_single now c b)
    unfolding on_single
    single_ok =
        by_test Says (within 1 in_single (low b) && ltb (low b) (length b)) _ _
        (λ t.
        let w = left (within 1 in_single (low b)) (ltb (low b) (length b)) t in
        let lo = within_low 1 in_single (low b) w in
        let hi = within_high 1 in_single (low b) w in
        let k : low b < length b = ltb→lt _ _ (right (within 1 in_single (low b)) (ltb (low b) (length b)) t) in
        let l = part_long (low b) 1 (omega arith) in
        ends c.transfer refl _ (arrived_ok flags now h c o (take (low b) (drop 1 b)) (omega arith) (omega arith) (part_bytes (low b) 1)))
        (stays [] tt)

    first_ok : Says (on_first now c b)
    unfolding on_first transmitting step_of7
    first_ok =
        let size : ℕ = low b * 256 + get_or b 1 0 in
        by_either Says (eqb c.pattern c.flow || ltb (length b) 8 || ltb size least_segmented) _ _ (λ t. stays [] tt)
        (λ n.
        let p = neither (eqb c.pattern c.flow || ltb (length b) 8) (ltb size least_segmented) n in
        let q = neither (eqb c.pattern c.flow) (ltb (length b) 8) p.0 in
        let full : 8 ≤ length b = nltb→le (length b) 8 q.1 in
        let least : least_segmented ≤ size = nltb→le size least_segmented p.1 in
        let six = part_long in_first 2 (omega arith) in
        by_test Says (leb size most_payload) _ _
        (λ t.
        let most : size ≤ most_payload = leb→le size most_payload t in
        segments (receives (record { size = size; bytes = take in_first (drop 2 b); run = 0; go_on = true })) tt
        (record { least = least; most = most; step = subst (λ (n : ℕ). T (step_of7 n)) (sym six) tt; part = omega arith; second = omega arith; bytes = part_bytes in_first 2 })
        q.0 _ (start_ok flags now h c o))
        (segments refuses tt tt q.0 [] tt))

    -- one that receives has a pattern other than its flow
    differs : (r : Reception) → c.transfer ≡ receives r → T (not (eqb c.pattern c.flow))
    unfolding segments_in
    differs r e = go (eqb c.pattern c.flow) (subst (λ (x : Transfer). T (not (eqb c.pattern c.flow && segments_in x))) e o.plain)
      where
        go : (p : Bool) → T (not (p && true)) → T (not p)
        go true t = t
        go false t = tt

    next_ok : (r : Reception) → c.transfer ≡ receives r → Says (on_next now c r b)
    unfolding on_next transmitting
    next_ok r e =
        let k : ReceptionOk r = subst TransferOk e o.transfer_ok in
        let missing : ℕ = r.size - length r.bytes in
        let part = k.part in
        let most = k.most in
        by_either Says (leb (length b) (min in_next missing)) _ _ (λ t. subst (λ (y : Transfer). Says (becomes y [])) e (stays [] tt))
        (λ n.
        let long : min in_next missing < length b = nleb→lt (length b) (min in_next missing) n in
        by_test Says (not (eqb (low b) (number_after (length r.bytes)))) _ _ (λ t. rests [] tt)
        (by_either Says (ltb in_next missing) _ _
        (λ t.
        let more : in_next < missing = ltb→lt in_next missing t in
        let seven = part_long in_next 1 (omega arith) in
        let l : length (r.bytes ++ take in_next (drop 1 b)) ≡ length r.bytes + in_next = length-append r.bytes (take in_next (drop 1 b)) ∙ ap (λ (j : ℕ). length r.bytes + j) seven in
        segments (receives (record { size = r.size; bytes = r.bytes ++ take in_next (drop 1 b); run = 0; go_on = r.go_on })) tt
        (record {
          least = k.least;
          most = k.most;
          step = step_more (length r.bytes) (length (r.bytes ++ take in_next (drop 1 b))) l k.step;
          part = omega arith;
          second = omega arith;
          bytes = all_append is_byte r.bytes (take in_next (drop 1 b)) k.bytes (part_bytes in_next 1);
        })
        (differs r e) [] tt)
        (λ t. rests _ (last r k long (nltb→le in_next missing t)))))
      where
        last : (r : Reception) → ReceptionOk r → min in_next (r.size - length r.bytes) < length b → r.size - length r.bytes ≤ in_next
            → T (all (heard_cell flags).ok (arrived now c (r.bytes ++ take (r.size - length r.bytes) (drop 1 b))))
        last r k long few =
            let m : ℕ = r.size - length r.bytes in
            let part = k.part in
            let most = k.most in
            let least = k.least in
            let l = length-append r.bytes (take m (drop 1 b)) in
            let e = part_long m 1 (omega arith) in
            arrived_ok flags now h c o (r.bytes ++ take m (drop 1 b)) (omega arith) (omega arith) (all_append is_byte r.bytes (take m (drop 1 b)) k.bytes (part_bytes m 1))

    -- a transmission at another stage, not in the air
    stages : (t : Transmission) → c.transfer ≡ transmits t → (s : Stage) → StageOk t.taken (length t.payload) s → T (not (airborne (staged t s))) → Says (becomes (staged t s) [])
    unfolding becomes staged transmitting segments_in
    stages t e s k n =
        let m : TransmissionOk t = subst TransferOk e o.transfer_ok in
        record {
          transfer_ok = record { least = m.least; most = m.most; bytes = m.bytes; stage = k };
          plain = no_segment (eqb c.pattern c.flow);
          transmits_still = λ u. subst (λ (x : Transfer). T (transmitting x)) (sym e) tt;
          flies_still = λ u. absurd (never (airborne (staged t s)) n u);
          records_ok = tt;
        }
      where
        never : (p : Bool) → T (not p) → T p → ⊥
        never true n u = n
        never false n u = u

    flow_ok : (t : Transmission) → c.transfer ≡ transmits t → (s : Stage) → t.stage ≡ s → Says (becomes (on_flow t s b) [])
    unfolding on_flow airborne staged
    flow_ok t e opens f = subst (λ (y : Transfer). Says (becomes y [])) e (stays [] tt)
    flow_ok t e (flies l g) f = subst (λ (y : Transfer). Says (becomes y [])) e (stays [] tt)
    flow_ok t e (sends l g w) f = subst (λ (y : Transfer). Says (becomes y [])) e (stays [] tt)
    flow_ok t e (awaits run) f =
        let m : TransmissionOk t = subst TransferOk e o.transfer_ok in
        let k : StageOk t.taken (length t.payload) (awaits run) = subst (StageOk t.taken (length t.payload)) f m.stage in
        by_test (λ (x : Transfer). Says (becomes x [])) (ltb (length b) 3) _ _ (λ u. subst (λ (y : Transfer). Says (becomes y [])) e (stays [] tt))
        (by_test (λ (x : Transfer). Says (becomes x [])) (eqb (low b) 0) _ _
        (λ u.
        stages t e (sends (get_or b 1 0) (gap_of (get_or b 2 0)) 0) (ltb→lt (get_or b 1 0) 256 (all_at is_byte b 1 0 tt bytes), gap_ok (get_or b 2 0), k.0, k.1, omega arith) tt)
        (by_test (λ (x : Transfer). Says (becomes x [])) (eqb (low b) 1) _ _ (λ u. stages t e (awaits 0) (k.0, k.1, omega arith) tt) (rests [] tt)))

    consecutive_ok : (x : Transfer) → c.transfer ≡ x → Says (on_consecutive now c x b)
    unfolding on_consecutive
    consecutive_ok idle e = rests [] tt
    consecutive_ok refuses e = subst (λ (y : Transfer). Says (becomes y [])) e (stays [] tt)
    consecutive_ok (receives r) e = next_ok r e
    consecutive_ok (transmits t) e = subst (λ (y : Transfer). Says (becomes y [])) e (stays [] tt)

    flow_of_ok : (x : Transfer) → c.transfer ≡ x → Says (becomes (on_flow_of x b) [])
    unfolding on_flow_of
    flow_of_ok idle e = rests [] tt
    flow_of_ok refuses e = subst (λ (y : Transfer). Says (becomes y [])) e (stays [] tt)
    flow_of_ok (receives r) e = subst (λ (y : Transfer). Says (becomes y [])) e (stays [] tt)
    flow_of_ok (transmits t) e = flow_ok t e t.stage refl

    listening_ok : Says (listening now c b)
    unfolding listening
    listening_ok =
        let kind : ℕ = get_or b 0 0 / 16 in
        by_test Says (eqb kind 3) _ _ (λ t. flow_of_ok c.transfer refl)
        (by_test Says (transmitting c.transfer) _ _ (λ t. stays [] tt)
        (by_test Says (eqb kind 0) _ _ (λ t. single_ok)
        (by_test Says (eqb kind 1) _ _ (λ t. first_ok)
        (by_test Says (eqb kind 2) _ _ (λ t. consecutive_ok c.transfer refl) (stays [] tt)))))

    -- A FRAME, heard by a conversation
    pub heard_ok : (wide : Bool) (id : ℕ) → Says (heard now wide id b c)
    unfolding heard
    heard_ok wide id = by_test Says (beq wide c.wide && eqb id c.pattern) _ _ (λ t. listening_ok) (stays [] tt)

  -- ---- time

  stages_later : (u : ℕ) (t : Transmission) → c.transfer ≡ transmits t → (s : Stage) → t.stage ≡ s → Says (becomes (later_stage u t s) [])
  unfolding later_stage airborne staged
  stages_later u t e opens f = subst (λ (y : Transfer). Says (becomes y [])) e (stays [] tt)
  stages_later u t e (flies l g) f = subst (λ (y : Transfer). Says (becomes y [])) e (stays [] tt)
  stages_later u t e (awaits run) f =
      let m : TransmissionOk t = subst TransferOk e o.transfer_ok in
      let k : StageOk t.taken (length t.payload) (awaits run) = subst (StageOk t.taken (length t.payload)) f m.stage in
      by_either (λ (x : Transfer). Says (becomes x [])) (leb second (run + u)) _ _ (λ v. rests [] tt)
      (λ v. stages [] (omega arith) tt t e (awaits (run + u)) (k.0, k.1, nleb→lt second (run + u) v) tt)
  stages_later u t e (sends l g w) f =
      let m : TransmissionOk t = subst TransferOk e o.transfer_ok in
      let k : StageOk t.taken (length t.payload) (sends l g w) = subst (StageOk t.taken (length t.payload)) f m.stage in
      let z = k.4 in
      stages [] (omega arith) tt t e (sends l g (w - u)) (k.0, k.1, k.2, k.3, omega arith) tt

  -- AN ADVANCE
  pub later_ok : (u : ℕ) (x : Transfer) → c.transfer ≡ x → Says (becomes (later_transfer u x) [])
  unfolding later_transfer transmitting
  later_ok u idle e = rests [] tt
  later_ok u refuses e = subst (λ (y : Transfer). Says (becomes y [])) e (stays [] tt)
  later_ok u (receives r) e =
      let k : ReceptionOk r = subst TransferOk e o.transfer_ok in
      by_either (λ (x : Transfer). Says (becomes x [])) (leb second (r.run + u)) _ _ (λ v. rests [] tt)
      (λ v.
      segments (receives (record { size = r.size; bytes = r.bytes; run = r.run + u; go_on = r.go_on })) tt
      (record { least = k.least; most = k.most; step = k.step; part = k.part; second = nleb→lt second (r.run + u) v; bytes = k.bytes })
      (differs [] (omega arith) tt r e) [] tt)
  later_ok u (transmits t) e = stages_later u t e t.stage refl

-- ---- a place after a frame or an advance

module _ (flags : ℕ) (f : Talk → Transfer) where
  pub turned_ok : (c : Talk) → TalkOk flags c → (rs : List Rec) → HeardOk flags c (f c) rs → TalkOk flags (turned c (f c))
  unfolding turned
  turned_ok c o rs k = record { width = o.width; pattern_in = o.pattern_in; flow_in_law = o.flow_in_law; plain = k.plain; transfer_ok = k.transfer_ok }

  module _ (g : Talk → List Rec) (k : (c : Talk) → TalkOk flags c → HeardOk flags c (f c) (g c)) where
    pub place_turned : (x : Option Talk) → PlaceOk flags x → PlaceOk flags (turned_slot f x)
    unfolding turned_slot
    place_turned none o = tt
    place_turned (some c) o = turned_ok c o (g c) (k c o)

    pub place_less : (x : Option Talk) → PlaceOk flags x → Less x (turned_slot f x)
    unfolding turned_slot
    place_less none o = gone
    place_less (some c) o = turns (f c) (k c o).transmits_still (k c o).flies_still

    pub news_ok : (a b : Option Talk) → PlaceOk flags a → PlaceOk flags b → T (all (heard_cell flags).ok (news g (a ∷ b ∷ [])))
    unfolding news
    news_ok none none o p = tt
    news_ok none (some d) o p = all_append (heard_cell flags).ok (g d) [] (k d p).records_ok tt
    news_ok (some c) none o p = all_append (heard_cell flags).ok (g c) [] (k c o).records_ok tt
    news_ok (some c) (some d) o p =
        all_append (heard_cell flags).ok (g c) (g d ++ []) (k c o).records_ok (all_append (heard_cell flags).ok (g d) [] (k d p).records_ok tt)

-- ---- the queue

pub arrive_ok : (flags : ℕ) (r : Receiving) (xs : List Rec) → T ((up_to most_heard (heard_cell flags)).ok r.queue) → T (all (heard_cell flags).ok xs) → T ((up_to most_heard (heard_cell flags)).ok (arrive_iso r xs).queue)
unfolding arrive_iso
arrive_ok flags r [] t u = t
arrive_ok flags r (x ∷ xs) t u =
    arrive_ok flags
    (if ltb (length r.queue) most_heard then record { queue = r.queue ++ x ∷ []; lost = r.lost }
    else record { queue = r.queue; lost = true }) xs
    (by_test (λ (q : Receiving). T ((up_to most_heard (heard_cell flags)).ok q.queue)) (ltb (length r.queue) most_heard) _ _
    (λ v. up_to_more most_heard (heard_cell flags) r.queue x t (ltb→lt _ _ v) (left ((heard_cell flags).ok x) (all (heard_cell flags).ok xs) u)) t)
    (right ((heard_cell flags).ok x) (all (heard_cell flags).ok xs) u)
