-- What a standing connection gives, on its bytes. Assumes nothing.
use Rattle.std.specs.Prelude.{if◌then◌else◌}
use mathlib.Core.Path.{◌≡◌, refl, sym, ap, ap₂, ◌∙◌, subst}
use Prim.Native.Nat.{ℕ, zero, suc, ◌+◌, ◌≤◌, ◌<◌, ◌^◌}
use native.Mathlib.Omega.{arith}
use mathlib.Core.Bool.{Bool, true, false}
use mathlib.Core.Option.{Option, none, some}
use mathlib.Core.List.{List, ◌∷◌}
use lib.ListN.{get_or, set, take, drop}
use lib.Dec.{T, eqb, ltb→lt}
use borrow.Author.Tests.{eq-eqb, ne_eqb}
use Rattle.codec.specs.Word.{word, word_at}
use Rattle.codec.specs.Code.{byte, word32, both, via, such, mark, mark_of}
use Rattle.codec.proofs.Part.{byte_of, word_of}
use Rattle.codec.proofs.Tests.{left, right}
use Rattle.codec.proofs.Word.{word_back}
use Rattle.telegram.specs.Telegram.{acknowledge, test, on_wire}
use Rattle.link.specs.Connection.{Asked, ours, Block, took_to, block_of, Out, idle, sends, asks, Talk, Hear, Care, Kind, its_data, its_test, its_other, Wire, spaced, carries, Link, Connection, standing, with_wire, with_talk, with_hear, with_care, next_data, Offer, offering, offer_data, offer_acknowledge, offer_on, offer}
use Rattle.link_layout.specs.Sizes.{out_size, wire_at, care_at, tests_in, talk_at, sn_in, out_at, block_in, hear_at, ack_in, standing_at, tx_id_at, asked_at, asked_size}
use Rattle.link_layout.specs.Connection.{asked, wire_parts, wire, block, out_parts, out, talk, ack, ack_parts, hear, care, is_data, connection_part}
use Rattle.link_layout.specs.Turned.{LinkPart}
use Rattle.link_layout.proofs.Talking.{block_most, asked_fits_law, asked_facts, OutFacts}
use Rattle.link_layout.proofs.Places.{held, kept, state_is, stands, link_ok, wire_ok, asked_part, tx_part, wire_part, care_part, talk_part, hear_part, out_part, hold_part, block_is, is_standing, IsStanding}
use Rattle.link_layout.proofs.Fieldwise.{byte_stored, number_in, Fields, fields, wire_next, care_slice, hear_slice, out_slice}
use Rattle.link_starts.proofs.Laws.{wire_tag, out_tag, taken_is, IsSending, is_sending}
use Rattle.link_telegrams.specs.declared.Given.{Given}
use Rattle.link_telegrams.specs.Given.{given, nothing_given, given_of, taken_from, Gave, AskedPart, Sending}

-- ---- what is given, by what is offered

pub gave : (m m' : List ℕ) (r : Given) (c : Connection) (x : Offer) → connection_part.get m ≡ c → offer c ≡ some x → r ≡ given x.id x.bytes → m' ≡ connection_part.put x.then'
    → Gave m r m'
unfolding given_of taken_from
gave m m' r c x e o g t =
    let q : offer (connection_part.get m) ≡ some x = ap offer e ∙ o in
    record { gives = g ∙ sym (ap given_of q); leaves = t ∙ sym (ap (λ (y : Option Offer). connection_part.put (taken_from (connection_part.get m) y)) q) }

pub gave_none : (m : List ℕ) (p : LinkPart m) (r : Given) (c : Connection) → connection_part.get m ≡ c → offer c ≡ none → r ≡ nothing_given → Gave m r m
unfolding given_of taken_from
gave_none m p r c e o g =
    let q : offer (connection_part.get m) ≡ none = ap offer e ∙ o in
    record { gives = g ∙ sym (ap given_of q); leaves = sym (kept m p) ∙ sym (ap (λ (y : Option Offer). connection_part.put (taken_from (connection_part.get m) y)) q) }

-- ---- tests and marks

yes : {A : Type 0} (b : Bool) (x y : A) → b ≡ true → (if b then x else y) ≡ x
yes b x y e = ap (λ (c : Bool). if c then x else y) e

no : {A : Type 0} (b : Bool) (x y : A) → b ≡ false → (if b then x else y) ≡ y
no b x y e = ap (λ (c : Bool). if c then x else y) e

mark_yes : (b : Bool) → mark_of b ≡ 1 → b ≡ true
mark_yes true e = refl
mark_yes false e = absurd (omega arith)

mark_no : (b : Bool) → (mark_of b ≡ 1 → ⊥) → b ≡ false
mark_no true d = absurd (d refl)
mark_no false d = refl

-- ---- the bytes of the parts

care_answers : (c : Care) → get_or (care.put c) 0 0 ≡ mark_of c.answers
unfolding care mark via such both byte
care_answers c = refl

care_tests : (c : Care) → get_or (care.put c) 1 0 ≡ mark_of c.tests
unfolding care mark via such both byte
care_tests c = refl

hear_expected : (h : Hear) → get_or (hear.put h) 0 0 ≡ h.expected
unfolding hear via both byte
hear_expected h = refl

hear_ack : (h : Hear) → get_or (hear.put h) 1 0 ≡ ack_parts h.acknowledges
unfolding hear ack via such both byte
hear_ack h = refl

talk_sn : (t : Talk) → get_or (talk.put t) sn_in 0 ≡ t.sn
unfolding talk via both byte word32 word
talk_sn t = refl

-- ---- the line

carries_ok : (k : Kind) → T (wire.ok (carries k))
unfolding wire via such both byte word32
carries_ok its_data = tt
carries_ok its_test = tt
carries_ok its_other = tt

spaced_small : (us : ℕ) → T (wire.ok (spaced us)) → us < 2 ^ 32
unfolding wire via such both word32
spaced_small us t = ltb→lt us (2 ^ 32) (search (left, right) depth 9)

spaced_left : (us : ℕ) → T (wire.ok (spaced us)) → word_at 1 (wire.put (spaced us)) ≡ us
spaced_left us t = let h = spaced_small us t in unfold wire via such both byte word32 word word_at in word_back us h

free_line : (w : Wire) → T (wire.ok w) → (wire_parts w).0 ≡ 0 → word_at 1 (wire.put w) ≡ 0 → w ≡ spaced 0
free_line (spaced us) t e z = ap spaced (sym (spaced_left us t) ∙ z)
free_line (carries its_data) t e z = absurd (omega arith)
free_line (carries its_test) t e z = absurd (omega arith)
free_line (carries its_other) t e z = absurd (omega arith)

line_taken : (k : Kind) (w : Wire) → w ≡ spaced 0 → set (wire.put w) 0 (wire_parts (carries k)).0 ≡ wire.put (carries k)
line_taken k w e = ap (λ (x : Wire). set (wire.put x) 0 (wire_parts (carries k)).0) e ∙ from_free k
  where
    from_free : (k : Kind) → set (wire.put (spaced 0)) 0 (wire_parts (carries k)).0 ≡ wire.put (carries k)
    from_free its_data = unfold wire via such both byte word32 word in refl
    from_free its_test = unfold wire via such both byte word32 word in refl
    from_free its_other = unfold wire via such both byte word32 word in refl

module _ (a : Asked) (tx : ℕ) (l : Link) where
  -- no telegram while one is in flight or T3 runs
  flies : (w : Wire) → ((wire_parts w).0 ≡ 0 → ⊥) → offer_on a tx l w ≡ none
  unfolding offer_on
  flies (spaced us) d = absurd (d refl)
  flies (carries k) d = refl

  spaces : (w : Wire) → T (wire.ok w) → (wire_parts w).0 ≡ 0 → 0 < word_at 1 (wire.put w) → offer_on a tx l w ≡ none
  unfolding offer_on
  spaces (spaced zero) t e h = absurd (omega (arith, spaced_left 0 t))
  spaces (spaced (suc us)) t e h = refl
  spaces (carries its_data) t e h = absurd (omega arith)
  spaces (carries its_test) t e h = absurd (omega arith)
  spaces (carries its_other) t e h = absurd (omega arith)

  module _ (w : l.wire ≡ spaced 0) where
    answers_first : l.care.answers ≡ true
        → offer (standing a tx l)
        ≡ offering tx (ours true a)
        (standing a tx
        (with_care (with_wire l (carries its_other)) (record { answers = false; tests = l.care.tests; unanswered = l.care.unanswered; left = l.care.left })))
    unfolding offer offer_on
    answers_first e = ap (offer_on a tx l) w ∙ yes l.care.answers _ _ e

    then_tests : l.care.answers ≡ false → l.care.tests ≡ true
        → offer (standing a tx l)
        ≡ offering tx test
        (standing a tx (with_care (with_wire l (carries its_test)) (record { answers = false; tests = false; unanswered = l.care.unanswered; left = l.care.left })))
    unfolding offer offer_on
    then_tests e f = ap (offer_on a tx l) w ∙ no l.care.answers _ _ e ∙ yes l.care.tests _ _ f

    then_acknowledges : l.care.answers ≡ false → l.care.tests ≡ false → offer (standing a tx l) ≡ offer_acknowledge a tx l l.hear.acknowledges
    unfolding offer offer_on
    then_acknowledges e f = ap (offer_on a tx l) w ∙ no l.care.answers _ _ e ∙ no l.care.tests _ _ f

  acknowledges_now : (x : Option Bool) → (ack_parts x ≡ 0 → ⊥)
      → offer_acknowledge a tx l x
      ≡ offering tx (acknowledge (eqb (ack_parts x) 2) l.hear.expected)
      (standing a tx
      (with_hear (with_wire l (carries its_other)) (record { expected = l.hear.expected; bytes = l.hear.bytes; complete = l.hear.complete; acknowledges = none })))
  unfolding offer_acknowledge
  acknowledges_now none d = absurd (d refl)
  acknowledges_now (some false) d = refl
  acknowledges_now (some true) d = refl

  then_data : (x : Option Bool) → ack_parts x ≡ 0 → offer_acknowledge a tx l x ≡ offer_data a tx l l.talk.out
  unfolding offer_acknowledge
  then_data none e = refl
  then_data (some false) e = absurd (omega arith)
  then_data (some true) e = absurd (omega arith)

  no_data : (o : Out) → ((out_parts o).0 ≡ 1 → ⊥) → offer_data a tx l o ≡ none
  unfolding offer_data
  no_data idle d = refl
  no_data (sends b) d = absurd (d refl)
  no_data (asks b us) d = refl

  data_held : (o : Out) → (out_parts o).0 ≡ 1 → 0 < l.talk.hold → offer_data a tx l o ≡ none
  unfolding offer_data
  data_held idle e h = refl
  data_held (sends b) e h = no (eqb l.talk.hold 0) _ _ (ne_eqb l.talk.hold 0 (λ z. omega arith))
  data_held (asks b us) e h = refl

  data_now : (b : Block) → l.talk.hold ≡ 0
      → offer_data a tx l (sends b)
      ≡ offering tx (next_data l.block l.talk.sn b)
      (standing a tx (with_talk (with_wire l (carries its_data)) (record { hold = l.talk.hold; sn = l.talk.sn; out = sends (took_to (b.taken + 1) b) })))
  unfolding offer_data
  data_now b e =
      yes (eqb l.talk.hold 0) _ _ (eq-eqb l.talk.hold 0 e)
      ∙ ap (λ (n : ℕ). offering tx (next_data l.block l.talk.sn b) (standing a tx (with_talk (with_wire l (carries its_data)) (record { hold = n; sn = l.talk.sn; out = sends (took_to (b.taken + 1) b) })))) (sym e)

-- ---- parts with a telegram taken

answer_stored : (c : Care) → set (care.put c) 0 0 ≡ care.put (record { answers = false; tests = c.tests; unanswered = c.unanswered; left = c.left })
unfolding care mark via such both byte
answer_stored c = refl

test_stored : (c : Care) → c.answers ≡ false → set (care.put c) 1 0 ≡ care.put (record { answers = false; tests = false; unanswered = c.unanswered; left = c.left })
unfolding care mark via such both byte word32
test_stored c e = ap {B = List ℕ} (λ (b : Bool). mark_of b ∷ 0 ∷ c.unanswered ∷ word c.left) e

ack_stored : (h : Hear) → set (hear.put h) 1 0 ≡ hear.put (record { expected = h.expected; bytes = h.bytes; complete = h.complete; acknowledges = none })
unfolding hear ack via such both byte
ack_stored h = refl

taken_stored : (b : Block) (o : Out) → o ≡ sends b → set (out.put o) 5 (b.taken + 1) ≡ out.put (sends (took_to (b.taken + 1) b))
taken_stored b o e = ap (λ (x : Out). set (out.put x) 5 (b.taken + 1)) e ∙ (unfold out block via such both byte word32 word took_to in refl)

-- ---- on the bytes

module _ (m : List ℕ) (p : LinkPart m) (z : get_or m 0 0 ≡ 3) where
  abbrev pub stander : IsStanding (held m p)
  stander = is_standing (held m p) (sym (state_is m p) ∙ z)

  abbrev pub who : Asked
  who = stander.0

  abbrev pub tx : ℕ
  tx = stander.1.0

  abbrev pub l : Link
  l = stander.1.1.0

  abbrev pub e : held m p ≡ standing who tx l
  e = stander.1.1.1

  ok_line : T (wire.ok l.wire)
  ok_line = wire_ok l (link_ok m p who tx l e)

  line_is : get_or m wire_at 0 ≡ (wire_parts l.wire).0
  line_is = byte_of (wire_part m p who tx l e) 0 (omega arith) ∙ wire_tag l.wire

  gap_is : word_at (wire_at + 1) m ≡ word_at 1 (wire.put l.wire)
  gap_is = number_in (wire_part m p who tx l e) 1 (omega arith)

  pub tx_is : word_at tx_id_at m ≡ tx
  tx_is = word_of (tx_part m p who tx l e)

  pub in_flight : (get_or m wire_at 0 ≡ 0 → ⊥) → (r : Given) → r ≡ nothing_given → Gave m r m
  unfolding offer
  in_flight d r g = gave_none m p r _ e (flies who tx l l.wire (λ q. d (line_is ∙ q))) g

  pub t3_runs : get_or m wire_at 0 ≡ 0 → 0 < word_at (wire_at + 1) m → (r : Given) → r ≡ nothing_given → Gave m r m
  unfolding offer
  t3_runs q h r g = gave_none m p r _ e (spaces who tx l l.wire ok_line (sym line_is ∙ q) (omega (arith, gap_is))) g

  pub asked_lent : AskedPart (take asked_size (drop asked_at m))
  asked_lent = let q = asked_part m p who tx l e in record { long = q.long; valid = q.valid }

  answers_is : get_or m care_at 0 ≡ mark_of l.care.answers
  answers_is = byte_of (care_part m p who tx l e) 0 (omega arith) ∙ care_answers l.care

  tests_is : get_or m (care_at + tests_in) 0 ≡ mark_of l.care.tests
  tests_is = byte_of (care_part m p who tx l e) 1 (omega arith) ∙ care_tests l.care

  ack_is : get_or m (hear_at + ack_in) 0 ≡ ack_parts l.hear.acknowledges
  ack_is = byte_of (hear_part m p who tx l e) 1 (omega arith) ∙ hear_ack l.hear

  expected_is : get_or m hear_at 0 ≡ l.hear.expected
  expected_is = byte_of (hear_part m p who tx l e) 0 (omega arith) ∙ hear_expected l.hear

  pub expected_most : get_or m hear_at 0 ≤ 15
  expected_most = omega (arith, expected_is, (stands m p who tx l e).facts.expected_most)

  sn_is : get_or m (talk_at + sn_in) 0 ≡ l.talk.sn
  sn_is = byte_of (talk_part m p who tx l e) sn_in (omega arith) ∙ talk_sn l.talk

  hold_is : word_at talk_at m ≡ l.talk.hold
  hold_is = word_of (hold_part m p who tx l e)

  out_is : get_or m out_at 0 ≡ (out_parts l.talk.out).0
  out_is = byte_of (out_part m p who tx l e) 0 (omega arith) ∙ out_tag l.talk.out

  -- where nothing is in flight and nothing left of T3
  module _ (y : get_or m wire_at 0 ≡ 0) (x : word_at (wire_at + 1) m ≡ 0) where
    free : l.wire ≡ spaced 0
    free = free_line l.wire ok_line (sym line_is ∙ y) (sym gap_is ∙ x)

    next : (k : Kind) → Fields (set m wire_at (wire_parts (carries k)).0) who tx (with_wire l (carries k))
    next k =
        let f = fields m p who tx l e in
        wire_next f (carries k) (carries_ok k) (byte_stored (wire_part m p who tx l e) 0 (wire_parts (carries k)).0 (carries k) (omega arith) (line_taken k l.wire free))

    pub answered : get_or m care_at 0 ≡ 1 → (r : Given) (id : ℕ) → id ≡ word_at tx_id_at m → r ≡ given id (on_wire (ours true (asked.get (take asked_size (drop asked_at m))))) → Gave m r (set (set m wire_at 3) care_at 0)
    unfolding offering with_wire
    answered q r id i g =
        gave m _ r _ _ e (answers_first who tx l free (mark_yes l.care.answers (sym answers_is ∙ q)))
        (g ∙ ap₂ (λ (n : ℕ) (a : Asked). given n (on_wire (ours true a))) (i ∙ tx_is) (asked_part m p who tx l e).got)
        (byte_stored (care_slice (next its_other)) 0 0 _ (omega arith) (answer_stored l.care))

    module _ (d : get_or m care_at 0 ≡ 1 → ⊥) where
      unasked : l.care.answers ≡ false
      unasked = mark_no l.care.answers (λ q. d (answers_is ∙ q))

      pub tested : get_or m (care_at + tests_in) 0 ≡ 1 → (r : Given) (id : ℕ) → id ≡ word_at tx_id_at m → r ≡ given id (on_wire test) → Gave m r (set (set m wire_at 2) (care_at + tests_in) 0)
      unfolding offering with_wire
      tested q r id i g =
          gave m _ r _ _ e (then_tests who tx l free unasked (mark_yes l.care.tests (sym tests_is ∙ q))) (g ∙ ap (λ (n : ℕ). given n (on_wire test)) (i ∙ tx_is))
          (byte_stored (care_slice (next its_test)) 1 0 _ (omega arith) (test_stored l.care unasked))

      module _ (t : get_or m (care_at + tests_in) 0 ≡ 1 → ⊥) where
        no_test : offer (standing who tx l) ≡ offer_acknowledge who tx l l.hear.acknowledges
        no_test = then_acknowledges who tx l free unasked (mark_no l.care.tests (λ q. t (tests_is ∙ q)))

        pub acknowledged : (get_or m (hear_at + ack_in) 0 ≡ 0 → ⊥) → (r : Given) (id : ℕ) → id ≡ word_at tx_id_at m
            → r ≡ given id (on_wire (acknowledge (eqb (get_or m (hear_at + ack_in) 0) 2) (get_or m hear_at 0))) → Gave m r (set (set m wire_at 3) (hear_at + ack_in) 0)
        unfolding offering with_wire
        acknowledged q r id i g =
            gave m _ r _ _ e (no_test ∙ acknowledges_now who tx l l.hear.acknowledges (λ b. q (ack_is ∙ b)))
            (g ∙ (λ j. given ((i ∙ tx_is) j) (on_wire (acknowledge (eqb (ack_is j) 2) (expected_is j)))))
            (byte_stored (hear_slice (next its_other)) 1 0 _ (omega arith) (ack_stored l.hear))

        -- no acknowledge waits
        module _ (s : get_or m (hear_at + ack_in) 0 ≡ 0) where
          no_ack : offer (standing who tx l) ≡ offer_data who tx l l.talk.out
          no_ack = no_test ∙ then_data who tx l l.hear.acknowledges (sym ack_is ∙ s)

          pub none_to_send : (get_or m out_at 0 ≡ 1 → ⊥) → (r : Given) → r ≡ nothing_given → Gave m r m
          none_to_send q r g = gave_none m p r _ e (no_ack ∙ no_data who tx l l.talk.out (λ b. q (out_is ∙ b))) g

          module _ (q : get_or m out_at 0 ≡ 1) where
            pub waits_still : 0 < word_at talk_at m → (r : Given) → r ≡ nothing_given → Gave m r m
            waits_still h r g = gave_none m p r _ e (no_ack ∙ data_held who tx l l.talk.out (sym out_is ∙ q) (omega (arith, hold_is))) g

            abbrev sending : IsSending l.talk.out
            sending = is_sending l.talk.out (sym out_is ∙ q)

            more : (b : Block) → l.talk.out ≡ sends b → b.taken < block_of l.block b.rest
            more b u =
                let f = subst (λ (w : Wire). OutFacts who.t1 l.block (is_data w) l.talk.out) free (stands m p who tx l e).facts.sending in
                let g = subst (OutFacts who.t1 l.block false) u f in
                ltb→lt b.taken (block_of l.block b.rest) g.1

            taken_at : get_or m (out_at + block_in) 0 ≡ sending.0.taken
            taken_at = byte_of (out_part m p who tx l e) 5 (omega arith) ∙ ap (λ (o : Out). get_or (out.put o) 5 0) sending.1 ∙ taken_is sending.0

            pub taken_few : get_or m (out_at + block_in) 0 < 15
            taken_few =
                let f = stands m p who tx l e in
                let k = more sending.0 sending.1 in
                let h = block_most l.block sending.0.rest in
                omega (arith, taken_at, f.facts.block_high, (asked_facts who (asked_fits_law who f.asked_ok)).block_size_high)

            module _ (size : ℕ) (v : size ≡ get_or m standing_at 0) where
              size_is : size ≡ l.block
              size_is = v ∙ block_is m p who tx l e

              pub out_lent : Sending size (take out_size (drop out_at m))
              out_lent =
                  let o = out_part m p who tx l e in
                  record {
                    long = o.long;
                    valid = o.valid;
                    which = ap (λ (b : List ℕ). get_or b 0 0) o.is ∙ out_tag l.talk.out ∙ sym out_is ∙ q;
                    more = λ b u. subst (λ (n : ℕ). b.taken < block_of n b.rest) (sym size_is) (more b (sym o.got ∙ u));
                  }

              pub data_given : word_at talk_at m ≡ 0 → (r : Given) (id : ℕ) → id ≡ word_at tx_id_at m
                  → ((b : Block) → out.get (take out_size (drop out_at m)) ≡ sends b → r ≡ given id (on_wire (next_data size (get_or m (talk_at + sn_in) 0) b)))
                  → Gave m r (set (set m wire_at 1) (out_at + block_in) (get_or m (out_at + block_in) 0 + 1))
              unfolding offering with_wire
              data_given h r id i g =
                  let b : Block = sending.0 in
                  let o = out_part m p who tx l e in
                  gave m _ r _ _ e (no_ack ∙ ap (offer_data who tx l) sending.1 ∙ data_now who tx l b (sym hold_is ∙ h))
                  (g b (o.got ∙ sending.1) ∙ (λ j. given ((i ∙ tx_is) j) (on_wire (next_data (size_is j) (sn_is j) b))))
                  (ap (λ (n : ℕ). set (set m wire_at 1) (out_at + block_in) (n + 1)) taken_at
                  ∙ byte_stored (out_slice (next its_data)) 5 (b.taken + 1) _ (omega arith) (taken_stored b l.talk.out sending.1))
