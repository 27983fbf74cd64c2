-- A connection keeps what its part of the region can hold, whatever reaches it: a take, a sent, an advance, a frame, each call. Assumes nothing.
use Rattle.std.specs.Prelude.{if◌then◌else◌}
use mathlib.Core.Path.{◌≡◌, refl, sym, ap, ◌∙◌, subst}
use Prim.Native.Nat.{ℕ, zero, suc, ◌+◌, ◌*◌, ◌-◌, ◌/◌, ◌%◌, ◌^◌, ◌≤◌, ◌<◌, min}
use native.Mathlib.Omega.{arith}
use mathlib.Core.Bool.{Bool, true, false, not, ◌&&◌, ◌||◌}
use mathlib.Core.Option.{Option, none, some}
use mathlib.Core.List.{List, [], ◌∷◌, ◌++◌}
use lib.ListN.{length, take, drop, length-drop, length-append}
use lib.Seq.{length-take-le}
use lib.Dec.{T, T_not, eqb, leb, ltb, eqb→eq, eqb_refl, leb→le, le→leb, ltb→lt, lt→ltb, nleb→lt, nltb→le, lit<}
use borrow.Author.Tests.{eqb-true, eqb-false, ltb-true, ltb-false, leb-true, leb-false}
use Rattle.codec.specs.Plain.{within, member, all, is_byte}
use Rattle.codec.specs.Word.{word, word_at}
use Rattle.codec.specs.Code.{Code, byte, word32, both, via, such, text}
use Rattle.codec.proofs.Tests.{by_test, by_both, yes, left, right, join, T_true, true_T, or_either, or_left, or_right, within_low, within_high}
use Rattle.codec.proofs.Lists.{all_append, all_take, all_drop}
use Rattle.codec.proofs.Word.{word_back}
use Rattle.codec.proofs.Present.{text_make, text_count, text_bytes}
use Rattle.telegram.specs.Bits.{are_bytes}
use Rattle.telegram.specs.Telegram.{own_connection, Opening, set_up, positive, negative, fields_fit, opening_fits, opening_bytes, read_opening, Telegram, data_telegram, acknowledge, connection, test, break_off, disconnection, fits, on_wire, read_channel}
use Rattle.telegram.proofs.Channel.{channel_again, channel_back}
use Rattle.telegram.proofs.Opening.{opening_again, opening_back}
use Rattle.link.specs.Connection.{t_e, t_wait, t_test, mntc, mnt, mntb, mnct, longest, micros, Asked, asked_fits, ours, set_up_of, Trial, waits, flies, runs, Block, new_block, took_to, telegrams, block_of, Out, idle, sends, asks, Talk, Hear, Care, Kind, its_data, its_test, its_other, Wire, spaced, carries, Link, Exit, due_in, due_behind, goes, Connection, absent, opening, connecting, standing, leaving, with_wire, with_talk, with_hear, with_care, anew, exit, leave, next_data, Offer, offering, offer_data, offer_acknowledge, offer_on, offer_trial, offer_exit, offer, data_sent, landed_on, trial_sent, exit_sent, was_sent, tried, out_later, care_later, wire_later, link_later, exit_later, passing, replied, joined, next_block, acknowledged, breaking, broken, heard_data, answering, data_heard, told, hears, on_link, begin, fetched, under_way, busy, whole, ended}
use Rattle.link_layout.specs.Connection.{asked, trial_fits, trial, exit_fits, leaves, is_data, is_test, space_fits, t1_fits, connection_part}
use Rattle.link_layout.proofs.Talking.{micros_small, telegrams_some, block_some, block_most, asked_fits_law, asked_facts, asked_make, BlockFacts, OutFacts, LinkFacts, Trying, Standing, Leaving, Held, absent_held, opening_held, opening_facts, connecting_held, connecting_facts, standing_held, standing_facts, leaving_held, leaving_facts}

-- ---- bytes, in the words of both crates

pub bytes_are : (b : List ℕ) → T (all is_byte b) → are_bytes b ≡ true
unfolding are_bytes
bytes_are [] t = refl
bytes_are (x ∷ b) t =
    let h = ltb→lt x 256 (left (is_byte x) (all is_byte b) t) in
    T_true _ (join (leb x 0xFF) (are_bytes b) (le→leb x 0xFF (omega arith)) (true_T _ (bytes_are b (right (is_byte x) (all is_byte b) t))))

pub are_bytes_law : (b : List ℕ) → are_bytes b ≡ true → T (all is_byte b)
unfolding are_bytes
are_bytes_law [] e = tt
are_bytes_law (x ∷ b) e =
    let t : T (leb x 0xFF && are_bytes b) = true_T _ e in
    let h = leb→le x 0xFF (left (leb x 0xFF) (are_bytes b) t) in
    join (is_byte x) (all is_byte b) (lt→ltb x 256 (omega arith)) (are_bytes_law b (T_true _ (right (leb x 0xFF) (are_bytes b) t)))

-- below the bound, whether a telegram is in flight or not
fits_below : (flying : Bool) (k n : ℕ) → k < n → T (if flying then leb k n else ltb k n)
fits_below true k n h = le→leb k n (omega arith)
fits_below false k n h = lt→ltb k n h

eq→eqb : (m n : ℕ) → m ≡ n → T (eqb m n)
eq→eqb m n e = subst (λ (k : ℕ). T (eqb m k)) e (eqb_refl m)

-- ---- opening and disconnect telegrams

trial_runs : (us : ℕ) → 1 ≤ us → us ≤ t_e → T (trial.ok (runs us))
unfolding trial such via both byte word32 within
trial_runs us h g = let k : us < 2 ^ 32 = omega arith in search (join, lt→ltb, le→leb)

trial_waits : T (trial.ok waits)
unfolding trial such via both byte word32
trial_waits = tt

trial_flies : T (trial.ok flies)
unfolding trial such via both byte word32
trial_flies = tt

trial_left : (us : ℕ) → T (trial.ok (runs us)) → (1 ≤ us) × (us ≤ t_e)
unfolding trial such via both
trial_left us t = let w : T (within 1 t_e us) = search (left, right) in (within_low 1 t_e us w, within_high 1 t_e us w)

exit_due : (us : ℕ) → us ≤ 6300000 → T (leaves.ok (due_in us))
unfolding leaves such via both byte word32
exit_due us h = let k : us < 2 ^ 32 = omega arith in search (join, lt→ltb, le→leb)

exit_behind : (t3 : ℕ) → t3 < 256 → T (leaves.ok (due_behind t3))
unfolding leaves such via both byte word32
exit_behind t3 h = let k : t3 < 2 ^ 32 = omega arith in let m : t3 ≤ 255 = omega arith in search (join, lt→ltb, le→leb)

exit_goes : T (leaves.ok goes)
unfolding leaves such via both byte word32
exit_goes = tt

due_left : (us : ℕ) → T (leaves.ok (due_in us)) → us ≤ 6300000
unfolding leaves such via both
due_left us t = leb→le us 6300000 (search right)

behind_t3 : (t3 : ℕ) → T (leaves.ok (due_behind t3)) → t3 ≤ 255
unfolding leaves such via both
behind_t3 t3 t = leb→le t3 255 (search right)

-- ---- what is offered: the connection with it in flight, and the record

pub record Offered (x : Offer) : Type 0 where
  pub then_held : Held x.then'
  pub narrow : x.id ≤ 0x7FF
  pub short : length x.bytes ≤ 8
  pub bytes : T (all is_byte x.bytes)

abbrev pub May : Option Offer → Type 0
May none = Unit {0}
May (some x) = Offered x

pub short_wire : (t : Telegram) → fits t ≡ true → length (on_wire t) ≤ 8
unfolding on_wire fits
short_wire (data_telegram asking last sn b) e =
    let t : T (leb sn 15 && (leb (length b) 7 && are_bytes b)) = true_T _ e in
    let h : length b ≤ 7 = leb→le (length b) 7 (search (left, right)) in
    omega arith
short_wire (acknowledge ready sn) e = omega arith
short_wire (connection ack bs t1 t2 t3 t4) e = omega arith
short_wire test e = omega arith
short_wire break_off e = omega arith
short_wire disconnection e = omega arith

offering_ok : (tx : ℕ) (t : Telegram) (c : Connection) → tx ≤ 0x7FF → fits t ≡ true → Held c → May (offering tx t c)
unfolding offering
offering_ok tx t c h e k =
    record { then_held = k; narrow = h; short = short_wire t e; bytes = are_bytes_law (on_wire t) (channel_back t e).0 }

pub length_take_most : (n : ℕ) (xs : List ℕ) → length (take n xs) ≤ n
length_take_most zero xs = omega arith
length_take_most (suc n) [] = omega arith
length_take_most (suc n) (x ∷ xs) = let h = length_take_most n xs in omega arith

-- ---- a standing connection: leaving, and a take

pub ours_fit : (ack : Bool) (a : Asked) → T (asked.ok a) → fits (ours ack a) ≡ true
unfolding fits ours own_connection
ours_fit ack a t = let f : T (asked_fits a) = asked_fits_law a t in T_true _ (unfold asked_fits in right (opening_fits a.own (set_up_of a)) _ f)

pub data_fit : (size sn : ℕ) (b : Block) → T ((text longest).ok b.rest) → fits (next_data size sn b) ≡ true
unfolding fits next_data
data_fit size sn b t =
    let r : List ℕ = take 7 (drop (7 * b.taken) b.rest) in
    let bytes : are_bytes r ≡ true = bytes_are r (all_take is_byte 7 (drop (7 * b.taken) b.rest) (all_drop is_byte (7 * b.taken) b.rest (text_bytes longest b.rest t))) in
    let few : length r ≤ 7 = length_take_most 7 (drop (7 * b.taken) b.rest) in
    let low : (sn + b.taken) % 16 ≤ 15 = omega arith in
    T_true _ (join (leb ((sn + b.taken) % 16) 15) _ (le→leb _ _ low) (join (leb (length r) 7) (are_bytes r) (le→leb _ _ few) (true_T _ bytes)))

module _ (a : Asked) (tx : ℕ) (l : Link) (f : Standing a tx l) where
  abbrev g : LinkFacts a l
  g = f.facts

  exit_ok : (w : Wire) → T (space_fits l.pace w) → T (leaves.ok (exit l.pace w))
  unfolding exit
  exit_ok (spaced us) t = exit_due us (omega (arith, leb→le us (micros l.pace) t, micros_small l.pace g.pace_byte))
  exit_ok (carries k) t = exit_behind l.pace g.pace_byte

  leave_held : Held (leave tx l)
  unfolding leave
  leave_held = leaving_held tx _ (record { tx_narrow = f.tx_narrow; exit_ok = exit_ok l.wire g.space })

  -- another state of the standing connection
  stays : (l' : Link) → LinkFacts a l' → Held (standing a tx l')
  stays l' h = standing_held a tx l' (record { asked_ok = f.asked_ok; tx_narrow = f.tx_narrow; facts = h })

  module _ (e : l.wire ≡ spaced 0) where
    no_test : T (ltb 0 l.care.left || (l.care.tests || false))
    no_test = subst (λ (w : Wire). T (ltb 0 l.care.left || (l.care.tests || is_test w))) e g.test_fits

    free : OutFacts a.t1 l.block false l.talk.out
    free = subst (λ (w : Wire). OutFacts a.t1 l.block (is_data w) l.talk.out) e g.sending

    data_facts : (b : Block) → OutFacts a.t1 l.block false (sends b)
        → LinkFacts a (with_talk (with_wire l (carries its_data)) (record { hold = 0; sn = l.talk.sn; out = sends (took_to (b.taken + 1) b) }))
    unfolding with_talk with_wire took_to
    data_facts b s =
        let k = s.0 in
        let h = ltb→lt b.taken (block_of l.block b.rest) s.1 in
        let n : T (leb (b.taken + 1) (block_of l.block b.rest)) = le→leb (b.taken + 1) (block_of l.block b.rest) (omega arith) in
        let z : 0 ≤ t_wait = omega arith in
        let m : BlockFacts (record { rest = b.rest; taken = b.taken + 1; repeats = b.repeats; again = b.again }) = search in
        search no_test

    offer_data_law : (o : Out) → l.talk.out ≡ o → May (offer_data a tx l o)
    unfolding offer_data
    offer_data_law idle q = tt
    offer_data_law (asks b us) q = tt
    offer_data_law (sends b) q =
        let s : OutFacts a.t1 l.block false (sends b) = subst (OutFacts a.t1 l.block false) q free in
        by_both May (eqb l.talk.hold 0) _ none
        (λ z.
        offering_ok tx (next_data l.block l.talk.sn b) _ f.tx_narrow (data_fit l.block l.talk.sn b s.0.rest_ok)
        (stays _ (data_facts b s)))
        (λ z. tt)

    ack_facts : LinkFacts a
        (with_hear (with_wire l (carries its_other))
        (record { expected = l.hear.expected; bytes = l.hear.bytes; complete = l.hear.complete; acknowledges = none }))
    unfolding with_hear with_wire
    ack_facts = search (no_test, free)

    offer_acknowledge_law : (x : Option Bool) → May (offer_acknowledge a tx l x)
    unfolding offer_acknowledge fits
    offer_acknowledge_law none = offer_data_law l.talk.out refl
    offer_acknowledge_law (some ready) =
        offering_ok tx (acknowledge ready l.hear.expected) _ f.tx_narrow (T_true _ (le→leb _ _ g.expected_most)) (stays _ ack_facts)

    answer_facts : LinkFacts a
        (with_care (with_wire l (carries its_other))
        (record { answers = false; tests = l.care.tests; unanswered = l.care.unanswered; left = l.care.left }))
    unfolding with_care with_wire
    answer_facts = search (no_test, free)

    test_facts : LinkFacts a
        (with_care (with_wire l (carries its_test))
        (record { answers = false; tests = false; unanswered = l.care.unanswered; left = l.care.left }))
    unfolding with_care with_wire
    test_facts = let t : T (ltb 0 l.care.left || (false || true)) = or_right (ltb 0 l.care.left) _ tt in search free

  offer_on_law : (w : Wire) → l.wire ≡ w → May (offer_on a tx l w)
  unfolding offer_on fits
  offer_on_law (carries k) e = tt
  offer_on_law (spaced (suc us)) e = tt
  offer_on_law (spaced zero) e =
      by_both May l.care.answers _ _
      (λ z. offering_ok tx (ours true a) _ f.tx_narrow (ours_fit true a f.asked_ok) (stays _ (answer_facts e)))
      (λ z.
      by_both May l.care.tests _ _ (λ y. offering_ok tx test _ f.tx_narrow refl (stays _ (test_facts e)))
      (λ y. offer_acknowledge_law e l.hear.acknowledges))

-- A TAKE
pub offer_held : (c : Connection) → Held c → May (offer c)
unfolding offer offer_trial offer_exit
offer_held absent t = tt
offer_held (opening a n waits) t =
    let f = opening_facts a n waits t in
    let k = asked_fits_law a f.asked_ok in
    let q = asked_facts a k in
    let o : opening_fits a.own (set_up_of a) ≡ true = T_true _ (unfold asked_fits in left (opening_fits a.own (set_up_of a)) _ k) in
    record {
      then_held = opening_held a n flies (record { asked_ok = f.asked_ok; few = f.few; trial_ok = trial_flies });
      narrow = omega (arith, q.own_high);
      short = unfold opening_bytes set_up_of in omega arith;
      bytes = are_bytes_law _ (opening_back a.own (set_up_of a) o).0;
    }
offer_held (opening a n flies) t = tt
offer_held (opening a n (runs us)) t = tt
offer_held (connecting a tx n waits) t =
    let f = connecting_facts a tx n waits t in
    let e = ours_fit false a f.0.asked_ok in
    record {
      then_held = connecting_held a tx n flies f.1 (record { asked_ok = f.0.asked_ok; few = f.0.few; trial_ok = trial_flies });
      narrow = f.1;
      short = short_wire (ours false a) e;
      bytes = are_bytes_law _ (channel_back (ours false a) e).0;
    }
offer_held (connecting a tx n flies) t = tt
offer_held (connecting a tx n (runs us)) t = tt
offer_held (standing a tx l) t = offer_on_law a tx l (standing_facts a tx l t) l.wire refl
offer_held (leaving tx (due_in zero)) t =
    let f = leaving_facts tx (due_in 0) t in
    offering_ok tx disconnection _ f.tx_narrow (unfold fits in refl)
    (leaving_held tx goes (record { tx_narrow = f.tx_narrow; exit_ok = exit_goes }))
offer_held (leaving tx (due_in (suc us))) t = tt
offer_held (leaving tx (due_behind t3)) t = tt
offer_held (leaving tx goes) t = tt

-- ---- a sent

module _ (a : Asked) (tx : ℕ) (l : Link) (f : Standing a tx l) where
  abbrev s : LinkFacts a l
  s = f.facts

  t1_starts : T (t1_fits a.t1 (if eqb a.t1 0xFF then 0 else micros a.t1))
  unfolding t1_fits
  t1_starts = go (eqb a.t1 0xFF)
    where
      all_left : (n : ℕ) → T (leb n n && (ltb 0 n || eqb n 0))
      all_left zero = tt
      all_left (suc n) = join (leb (suc n) (suc n)) _ (le→leb (suc n) (suc n) (omega arith)) (or_left (ltb 0 (suc n)) (eqb (suc n) 0) (lt→ltb 0 (suc n) (omega arith)))

      go : (b : Bool) → T (if b then eqb (if b then 0 else micros a.t1) 0 else leb (if b then 0 else micros a.t1) (micros a.t1) && (ltb 0 (if b then 0 else micros a.t1) || eqb (micros a.t1) 0))
      go true = tt
      go false = all_left (micros a.t1)

  data_sent_law : (o : Out) → OutFacts a.t1 l.block true o → OutFacts a.t1 l.block false (data_sent a.t1 l.block o)
  unfolding data_sent
  data_sent_law idle k = absurd k
  data_sent_law (asks b us) k = absurd k.1
  data_sent_law (sends b) k =
      let n : ℕ = block_of l.block b.rest in
      by_both (OutFacts a.t1 l.block false) (eqb b.taken n) _ _ (λ e. (k.0, tt, eqb→eq b.taken n e, t1_starts))
      (λ e.
      let h = leb→le b.taken n k.1 in
      let d : b.taken ≡ n → ⊥ = λ q. T_not (eqb b.taken n) e (eq→eqb b.taken n q) in
      (k.0, lt→ltb b.taken n (omega arith)))

  quiet : (c : Care) → c.unanswered < mnct + 2 → c.left ≤ t_test → T (ltb 0 c.left || (c.tests || false)) → (o : Out) → OutFacts a.t1 l.block false o
      → LinkFacts a (record { block = l.block; pace = l.pace; wire = spaced (micros l.pace); talk = record { hold = l.talk.hold; sn = l.talk.sn; out = o }; hear = l.hear; care = c })
  quiet c h m t o k = let w : T (leb (micros l.pace) (micros l.pace)) = le→leb (micros l.pace) (micros l.pace) (omega arith) in search

  -- what is known of the test and of the message with this telegram in flight
  test_of : (w : Wire) → l.wire ≡ w → T (ltb 0 l.care.left || (l.care.tests || is_test w))
  test_of w e = subst (λ (x : Wire). T (ltb 0 l.care.left || (l.care.tests || is_test x))) e s.test_fits

  out_of : (w : Wire) → l.wire ≡ w → OutFacts a.t1 l.block (is_data w) l.talk.out
  out_of w e = subst (λ (x : Wire). OutFacts a.t1 l.block (is_data x) l.talk.out) e s.sending

  landed_facts : (w : Wire) → l.wire ≡ w → LinkFacts a (landed_on a l w)
  unfolding landed_on with_wire with_care with_talk
  landed_facts (spaced us) e = s
  landed_facts (carries its_other) e = quiet l.care s.unanswered_most s.left_most (test_of (carries its_other) e) l.talk.out (out_of (carries its_other) e)
  landed_facts (carries its_test) e =
      quiet (record { answers = l.care.answers; tests = l.care.tests; unanswered = if eqb l.care.unanswered 0 then 1 else l.care.unanswered; left = t_test })
      (by_test (λ (n : ℕ). n < mnct + 2) (eqb l.care.unanswered 0) 1 l.care.unanswered (λ t. omega arith) s.unanswered_most) (omega arith) tt l.talk.out
      (out_of (carries its_test) e)
  landed_facts (carries its_data) e =
      quiet l.care s.unanswered_most s.left_most (test_of (carries its_data) e) _ (data_sent_law l.talk.out (out_of (carries its_data) e))

-- A SENT
pub sent_held : (c : Connection) → Held c → Held (was_sent c)
unfolding was_sent trial_sent exit_sent
sent_held absent t = t
sent_held (opening a n waits) t = t
sent_held (opening a n flies) t =
    let f = opening_facts a n flies t in
    opening_held a n (runs t_e) (record { asked_ok = f.asked_ok; few = f.few; trial_ok = trial_runs t_e (omega arith) (omega arith) })
sent_held (opening a n (runs us)) t = t
sent_held (connecting a tx n waits) t = t
sent_held (connecting a tx n flies) t =
    let f = connecting_facts a tx n flies t in
    connecting_held a tx n (runs t_e) f.1 (record { asked_ok = f.0.asked_ok; few = f.0.few; trial_ok = trial_runs t_e (omega arith) (omega arith) })
sent_held (connecting a tx n (runs us)) t = t
sent_held (standing a tx l) t = let f = standing_facts a tx l t in stays a tx l f _ (landed_facts a tx l f l.wire refl)
sent_held (leaving tx (due_in us)) t = t
sent_held (leaving tx (due_behind t3)) t =
    let f = leaving_facts tx (due_behind t3) t in
    let h = behind_t3 t3 f.exit_ok in
    leaving_held tx _ (record { tx_narrow = f.tx_narrow; exit_ok = exit_due (micros t3) (micros_small t3 (omega arith)) })
sent_held (leaving tx goes) t = absent_held

trial_later : (t n : ℕ) (s : Trial) (on : ℕ → Trial → Connection) (over : Connection) (a : Asked) → Trying a n s
    → ((m : ℕ) (s' : Trial) → Trying a m s' → Held (on m s')) → Held over → Held (tried t n s on over)
unfolding tried
trial_later t n waits on over a f k o = k n waits f
trial_later t n flies on over a f k o = k n flies f
trial_later t n (runs us) on over a f k o =
    let w = trial_left us f.trial_ok in
    by_both Held (ltb t us) _ _
    (λ z.
    let h = ltb→lt t us z in
    k n (runs (us - t)) (record { asked_ok = f.asked_ok; few = f.few; trial_ok = trial_runs (us - t) (omega arith) (omega (arith, w.1)) }))
    (λ z.
    by_both Held (leb mntc n) over _ (λ y. o)
    (λ y. let h = nleb→lt mntc n y in k (n + 1) waits (record { asked_ok = f.asked_ok; few = omega arith; trial_ok = trial_waits })))

-- ---- an advance of a standing connection

abbrev pub MayOut : ℕ → ℕ → Bool → Option Out → Type 0
MayOut t1 size flying none = Unit {0}
MayOut t1 size flying (some o) = OutFacts t1 size flying o

pub out_later_law : (t1 size t : ℕ) (flying : Bool) (o : Out) → 1 ≤ size → OutFacts t1 size flying o → MayOut t1 size flying (out_later t1 t o)
unfolding out_later t1_fits
out_later_law t1 size t flying idle h k = k
out_later_law t1 size t flying (sends b) h k = k
out_later_law t1 size t flying (asks b us) h k =
    let some_left = block_some size b.rest h in
    let e : b.taken ≡ block_of size b.rest = k.2 in
    by_both (MayOut t1 size flying) (eqb t1 0xFF || ltb t us) _ _ (λ z. (k.0, k.1, k.2, still (eqb t1 0xFF) z k.3))
    (λ z.
    by_both (MayOut t1 size flying) (leb mnt b.repeats) none _ (λ y. tt)
    (λ y.
    let q = nleb→lt mnt b.repeats y in
    let r = k.0 in
    let fewer : b.repeats + 1 ≤ mnt = omega arith in
    let low : b.taken - 1 < block_of size b.rest = omega arith in
    (record { rest_ok = r.rest_ok; repeats_most = fewer; again_most = r.again_most }, fits_below flying (b.taken - 1) (block_of size b.rest) low)))
  where
    still : (c : Bool) → T (c || ltb t us) → T (if c then eqb us 0 else leb us (micros t1) && (ltb 0 us || eqb (micros t1) 0))
        → T (if c then eqb (us - t) 0 else leb (us - t) (micros t1) && (ltb 0 (us - t) || eqb (micros t1) 0))
    still true z u = let e = eqb→eq us 0 u in eq→eqb (us - t) 0 (omega arith)
    still false z u =
        let h = ltb→lt t us z in
        let m = leb→le us (micros t1) (left (leb us (micros t1)) (ltb 0 us || eqb (micros t1) 0) u) in
        join (leb (us - t) (micros t1)) (ltb 0 (us - t) || eqb (micros t1) 0) (le→leb (us - t) (micros t1) (omega arith))
        (or_left (ltb 0 (us - t)) (eqb (micros t1) 0) (lt→ltb 0 (us - t) (omega arith)))

-- the test's part, with the line as it was
pub record CareFacts (c : Care) (testing : Bool) : Type 0 where
  pub unanswered_most : c.unanswered < mnct + 2
  pub left_most : c.left ≤ t_test
  pub test_fits : T (ltb 0 c.left || (c.tests || testing))

abbrev MayCare : Bool → Option Care → Type 0
MayCare testing none = Unit {0}
MayCare testing (some c) = CareFacts c testing

care_later_law : (t : ℕ) (c : Care) (testing : Bool) → CareFacts c testing → MayCare testing (care_later t c)
unfolding care_later
care_later_law t c testing k =
    by_both (MayCare testing) (eqb c.left 0 || ltb t c.left) _ _
    (λ z. record { unanswered_most = k.unanswered_most; left_most = omega (arith, k.left_most); test_fits = still (eqb c.left 0) refl z k.test_fits })
    (λ z.
    by_both (MayCare testing) (ltb mnct c.unanswered) none _ (λ y. tt)
    (λ y.
    let h = nltb→le mnct c.unanswered y in
    record {
      unanswered_most = by_test (λ (n : ℕ). n < mnct + 2) (eqb c.unanswered 0) 0 (c.unanswered + 1) (λ x. omega arith) (omega arith);
      left_most = omega arith;
      test_fits = tt;
    }))
  where
    still : (b : Bool) → eqb c.left 0 ≡ b → T (b || ltb t c.left) → T (ltb 0 c.left || (c.tests || testing)) → T (ltb 0 (c.left - t) || (c.tests || testing))
    still true e z u =
        let q = eqb-true c.left 0 e in
        let same : c.left ≡ c.left - t = omega arith in
        subst (λ (n : ℕ). T (ltb 0 n || (c.tests || testing))) same u
    still false e z u = let h = ltb→lt t c.left z in or_left (ltb 0 (c.left - t)) _ (lt→ltb 0 (c.left - t) (omega arith))

module _ (a : Asked) (tx t : ℕ) (l : Link) (f : Standing a tx l) where
  abbrev p : LinkFacts a l
  p = f.facts

  space_later : (w : Wire) → T (space_fits l.pace w) → T (space_fits l.pace (wire_later t w))
  unfolding wire_later
  space_later (spaced us) u = let h = leb→le us (micros l.pace) u in le→leb (us - t) (micros l.pace) (omega arith)
  space_later (carries k) u = u

  data_later : (w : Wire) → is_data (wire_later t w) ≡ is_data w
  unfolding wire_later
  data_later (spaced us) = refl
  data_later (carries k) = refl

  test_later : (w : Wire) → is_test (wire_later t w) ≡ is_test w
  unfolding wire_later
  test_later (spaced us) = refl
  test_later (carries k) = refl

  -- leaving with what is then left of T3
  leave_later : Held (leave tx (with_wire l (wire_later t l.wire)))
  unfolding leave with_wire
  leave_later = leaving_held tx _ (record { tx_narrow = f.tx_narrow; exit_ok = exit_ok a tx l f (wire_later t l.wire) (space_later l.wire p.space) })

  pub later_facts : (o : Out) (c : Care) → OutFacts a.t1 l.block (is_data l.wire) o → CareFacts c (is_test l.wire)
      → LinkFacts a (with_care (with_talk (with_wire l (wire_later t l.wire)) (record { hold = l.talk.hold - t; sn = l.talk.sn; out = o })) c)
  unfolding with_care with_talk with_wire
  later_facts o c k q =
      let hold : l.talk.hold - t ≤ t_wait = omega (arith, p.hold_most) in
      let w = space_later l.wire p.space in
      let d = subst (λ (b : Bool). OutFacts a.t1 l.block b o) (sym (data_later l.wire)) k in
      let e = subst (λ (b : Bool). T (ltb 0 c.left || (c.tests || b))) (sym (test_later l.wire)) q.test_fits in
      search

  link_later_law : (o : Option Out) (c : Option Care) → MayOut a.t1 l.block (is_data l.wire) o → MayCare (is_test l.wire) c → Held (link_later a tx t l o c)
  unfolding link_later
  link_later_law none c k q = leave_later
  link_later_law (some o) none k q = leave_later
  link_later_law (some o) (some c) k q = stays a tx l f _ (later_facts o c k q)

-- AN ADVANCE
pub passing_held : (t : ℕ) (c : Connection) → Held c → Held (passing t c)
unfolding passing exit_later
passing_held t absent u = u
passing_held t (opening a n s) u =
    trial_later t n s (opening a) absent a (opening_facts a n s u) (λ m s' f. opening_held a m s' f) absent_held
passing_held t (connecting a tx n s) u =
    let f = connecting_facts a tx n s u in
    trial_later t n s (connecting a tx) (leaving tx (due_in 0)) a f.0 (λ m s' k. connecting_held a tx m s' f.1 k)
    (leaving_held tx (due_in 0) (record { tx_narrow = f.1; exit_ok = exit_due 0 (omega arith) }))
passing_held t (standing a tx l) u =
    let f = standing_facts a tx l u in
    let k = f.facts in
    link_later_law a tx t l f _ _ (out_later_law a.t1 l.block t (is_data l.wire) l.talk.out k.block_low k.sending)
    (care_later_law t l.care (is_test l.wire) (record { unanswered_most = k.unanswered_most; left_most = k.left_most; test_fits = k.test_fits }))
passing_held t (leaving tx (due_in us)) u =
    let f = leaving_facts tx (due_in us) u in
    let h = due_left us f.exit_ok in
    leaving_held tx _ (record { tx_narrow = f.tx_narrow; exit_ok = exit_due (us - t) (omega arith) })
passing_held t (leaving tx (due_behind t3)) u = u
passing_held t (leaving tx goes) u = u

-- ---- a frame

-- what is read fits
abbrev Read : Option Telegram → Type 0
Read none = Unit {0}
Read (some t) = T (fits t)

read_fits : (b : List ℕ) → T (all is_byte b) → Read (read_channel b)
read_fits b t = go (read_channel b) refl
  where
    go : (x : Option Telegram) → read_channel b ≡ x → Read x
    go none e = tt
    go (some r) e = true_T _ (channel_again b r (bytes_are b t) e).0

abbrev ReadOpening : ℕ → Option Opening → Type 0
ReadOpening id none = Unit {0}
ReadOpening id (some o) = T (opening_fits id o)

opening_fits_law : (id : ℕ) (b : List ℕ) → T (all is_byte b) → ReadOpening id (read_opening id b)
opening_fits_law id b t = go (read_opening id b) refl
  where
    go : (x : Option Opening) → read_opening id b ≡ x → ReadOpening id x
    go none e = tt
    go (some r) e = true_T _ (opening_again id b r (bytes_are b t) e).0

-- ---- a reply

rx_narrow : (id d tx rx app : ℕ) → T (opening_fits id (positive d tx rx app)) → rx ≤ 0x7FF
unfolding opening_fits fields_fit
rx_narrow id d tx rx app t = leb→le rx 0x7FF (search (left, right))

replied_held : (a : Asked) (n : ℕ) (s : Trial) (id : ℕ) (x : Option Opening) → Held (opening a n s) → ReadOpening id x → Held (replied a n s x)
unfolding replied
replied_held a n s id none t r = t
replied_held a n s id (some (set_up d rx app)) t r = t
replied_held a n s id (some (positive d tx rx app)) t r =
    let f = opening_facts a n s t in
    by_test Held (eqb d (a.own % 256) && eqb tx a.rx_id && eqb app a.application) _ _
    (λ z. connecting_held a rx 0 waits (rx_narrow id d tx rx app r) (record { asked_ok = f.asked_ok; few = omega arith; trial_ok = trial_waits })) t
replied_held a n s id (some (negative d kind rest)) t r = by_test Held (eqb d (a.own % 256)) _ _ (λ z. absent_held) t

-- ---- while connecting

joined_facts : (a : Asked) (ack : Bool) (bs t1 t2 t3 t4 : ℕ) → T (asked.ok a) → T (fits (connection ack bs t1 t2 t3 t4)) → LinkFacts a (anew a bs t3)
unfolding anew fits
joined_facts a ack bs t1 t2 t3 t4 k r =
    let q = asked_facts a (asked_fits_law a k) in
    let low : 1 ≤ bs = leb→le 1 bs (search (left, right)) in
    let high : t3 ≤ 0xFF = leb→le t3 0xFF (search (left, right)) in
    let pace : t3 < 256 = omega arith in
    let size : 1 ≤ min a.block_size bs = omega (arith, q.block_size_low) in
    let most : min a.block_size bs ≤ a.block_size = omega arith in
    let nil : T ((text longest).ok []) = text_make longest [] (lit< tt) (omega arith) tt in
    let space : T (leb 0 (micros t3)) = le→leb 0 (micros t3) (omega arith) in
    record {
      block_low = size;
      block_high = most;
      pace_byte = pace;
      space = space;
      hold_most = omega arith;
      sn_most = omega arith;
      sending = tt;
      expected_most = omega arith;
      bytes_ok = nil;
      complete_fits = tt;
      unanswered_most = omega arith;
      left_most = omega arith;
      test_fits = tt;
    }

joined_held : (a : Asked) (tx n : ℕ) (s : Trial) (x : Option Telegram) → Held (connecting a tx n s) → Read x → Held (joined a tx n s x)
unfolding joined
joined_held a tx n s none t r = t
joined_held a tx n s (some (data_telegram asking last sn b)) t r = t
joined_held a tx n s (some (acknowledge ready sn)) t r = t
joined_held a tx n s (some (connection true bs t1 t2 t3 t4)) t r =
    let f = connecting_facts a tx n s t in
    standing_held a tx _ (record { asked_ok = f.0.asked_ok; tx_narrow = f.1; facts = joined_facts a true bs t1 t2 t3 t4 f.0.asked_ok r })
joined_held a tx n s (some (connection false bs t1 t2 t3 t4)) t r = t
joined_held a tx n s (some test) t r = t
joined_held a tx n s (some break_off) t r = t
joined_held a tx n s (some disconnection) t r = absent_held

-- ---- while it stands

module _ (a : Asked) (tx : ℕ) (l : Link) (f : Standing a tx l) where
  abbrev q : LinkFacts a l
  q = f.facts

  new_talk : (hold sn : ℕ) (o : Out) → hold ≤ t_wait → sn ≤ 15 → OutFacts a.t1 l.block (is_data l.wire) o → LinkFacts a (with_talk l (record { hold = hold; sn = sn; out = o }))
  unfolding with_talk
  new_talk hold sn o h k t = search

  new_hear : (h : Hear) → h.expected ≤ 15 → T ((text longest).ok h.bytes) → T (not h.complete || ltb 0 (length h.bytes)) → LinkFacts a (with_hear l h)
  unfolding with_hear
  new_hear h k t u = search

  new_care : (c : Care) → CareFacts c (is_test l.wire) → LinkFacts a (with_care l c)
  unfolding with_care
  new_care c k = search

  -- a block that begins
  begins : (rest : List ℕ) → T ((text longest).ok rest) → OutFacts a.t1 l.block (is_data l.wire) (sends (new_block rest))
  unfolding new_block
  begins rest t =
      (record { rest_ok = t; repeats_most = omega arith; again_most = omega arith }, fits_below (is_data l.wire) 0 (block_of l.block rest) (block_some l.block rest q.block_low))

  dropped : (k : ℕ) (b : List ℕ) → T ((text longest).ok b) → T ((text longest).ok (drop k b))
  dropped k b t = text_make longest (drop k b) (lit< tt) (omega (arith, length-drop k b, text_count longest b t)) (all_drop is_byte k b (text_bytes longest b t))

  next_block_law : (b : Block) (us : ℕ) → OutFacts a.t1 l.block (is_data l.wire) (asks b us) → OutFacts a.t1 l.block (is_data l.wire) (next_block b)
  unfolding next_block
  next_block_law b us k =
      by_test (OutFacts a.t1 l.block (is_data l.wire)) (leb (length b.rest) (7 * b.taken)) _ _ (λ z. k.1)
      (begins (drop (7 * b.taken) b.rest) (dropped (7 * b.taken) b.rest k.0.rest_ok))

  acknowledged_held : (o : Out) → l.talk.out ≡ o → (ready : Bool) (sn : ℕ) → sn ≤ 15 → Held (acknowledged a tx l o ready sn)
  unfolding acknowledged
  acknowledged_held idle e ready sn h = stays a tx l f l q
  acknowledged_held (sends b) e ready sn h = stays a tx l f l q
  acknowledged_held (asks b us) e ready sn h =
      let at : ℕ = (sn + 16 - l.talk.sn) % 16 in
      let k : OutFacts a.t1 l.block (is_data l.wire) (asks b us) = subst (OutFacts a.t1 l.block (is_data l.wire)) e q.sending in
      let hold : (if ready then l.talk.hold else t_wait) ≤ t_wait = by_test (λ (n : ℕ). n ≤ t_wait) ready l.talk.hold t_wait (λ z. q.hold_most) (omega arith) in
      by_test Held (eqb at b.taken) _ _ (λ z. stays a tx l f _ (new_talk _ sn (next_block b) hold h (next_block_law b us k)))
      (by_both Held (not (ltb at b.taken)) _ _ (λ z. stays a tx l f l q)
      (λ z.
      let below : at < b.taken = ltb→lt at b.taken (yes (ltb at b.taken) z) in
      let same : b.taken ≡ block_of l.block b.rest = k.2 in
      by_both Held (leb mntb b.again) _ _ (λ y. leave_held a tx l f)
      (λ y.
      let few = nleb→lt mntb b.again y in
      let more : b.again + 1 ≤ mntb = omega arith in
      let low : at < block_of l.block b.rest = omega arith in
      stays a tx l f _
      (new_talk _ l.talk.sn (sends (record { rest = b.rest; taken = at; repeats = 0; again = b.again + 1 })) hold q.sn_most
      (record { rest_ok = k.0.rest_ok; repeats_most = omega arith; again_most = more }, fits_below (is_data l.wire) at (block_of l.block b.rest) low)))))

  -- a break
  breaking_held : (b : Block) → Held (standing a tx (with_talk l (breaking l.talk b)))
  unfolding breaking
  breaking_held b =
      by_test (λ (t : Talk). Held (standing a tx (with_talk l t))) (ltb b.taken (telegrams b.rest)) _ _
      (λ z.
      let low : (l.talk.sn + b.taken) % 16 ≤ 15 = omega arith in
      let nil : T ((text longest).ok []) = text_make longest [] (lit< tt) (omega arith) tt in
      stays a tx l f _ (new_talk l.talk.hold ((l.talk.sn + b.taken) % 16) (sends (new_block [])) q.hold_most low (begins [] nil)))
      (stays a tx l f _ (new_talk l.talk.hold l.talk.sn l.talk.out q.hold_most q.sn_most q.sending))

  broken_held : (o : Out) → Held (standing a tx (with_talk l (broken l.talk o)))
  unfolding broken
  broken_held idle = stays a tx l f _ (new_talk l.talk.hold l.talk.sn l.talk.out q.hold_most q.sn_most q.sending)
  broken_held (sends b) = breaking_held b
  broken_held (asks b us) = breaking_held b

  -- data
  more_bytes : (b : List ℕ) → T (all is_byte b) → length l.hear.bytes + length b ≤ longest → T ((text longest).ok (l.hear.bytes ++ b))
  more_bytes b t h =
      text_make longest (l.hear.bytes ++ b) (lit< tt) (omega (arith, length-append l.hear.bytes b))
      (all_append is_byte l.hear.bytes b (text_bytes longest l.hear.bytes q.bytes_ok) t)

  complete_of : (last : Bool) (n : ℕ) → T (not (last && ltb 0 n) || ltb 0 n)
  complete_of last n = go (ltb 0 n) last
    where
      go : (b c : Bool) → T (not (c && b) || b)
      go true true = tt
      go true false = tt
      go false true = tt
      go false false = tt

  heard_facts : (asking last : Bool) (b : List ℕ) → T (all is_byte b) → length l.hear.bytes + length b ≤ longest → LinkFacts a (with_hear l (heard_data l.hear asking last b))
  unfolding heard_data
  heard_facts asking last b t h =
      let low : (l.hear.expected + 1) % 16 ≤ 15 = omega arith in
      new_hear _ low (more_bytes b t h) (complete_of last (length (l.hear.bytes ++ b)))

  answering_facts : (ready : Bool) → LinkFacts a (with_hear l (answering l.hear ready))
  unfolding answering
  answering_facts ready = new_hear _ q.expected_most q.bytes_ok q.complete_fits

  data_held : (asking last : Bool) (sn : ℕ) (b : List ℕ) → T (all is_byte b) → Held (data_heard a tx l asking last sn b)
  unfolding data_heard
  data_held asking last sn b t =
      by_test Held l.hear.complete _ _
      (λ z. by_test (λ (x : Link). Held (standing a tx x)) asking _ _ (λ y. stays a tx l f _ (answering_facts false)) (stays a tx l f l q))
      (by_test Held (not (eqb sn l.hear.expected)) _ _ (λ z. stays a tx l f _ (answering_facts true))
      (by_both Held (ltb longest (length l.hear.bytes + length b)) _ _ (λ z. leave_held a tx l f)
      (λ z. stays a tx l f _ (heard_facts asking last b t (nltb→le longest (length l.hear.bytes + length b) z)))))

  told_held : (x : Option Telegram) → Read x → Held (told a tx l x)
  unfolding told fits
  told_held none r = stays a tx l f l q
  told_held (some (data_telegram asking last sn b)) r =
      let t : T (are_bytes b) = search right in
      data_held asking last sn b (are_bytes_law b (T_true _ t))
  told_held (some (acknowledge ready sn)) r = acknowledged_held l.talk.out refl ready sn (leb→le sn 15 r)
  told_held (some (connection false bs t1 t2 t3 t4)) r = stays a tx l f l q
  told_held (some (connection true bs t1 t2 t3 t4)) r =
      stays a tx l f _ (new_care _ (record { unanswered_most = omega arith; left_most = q.left_most; test_fits = q.test_fits }))
  told_held (some test) r = stays a tx l f _ (new_care _ (record { unanswered_most = q.unanswered_most; left_most = omega arith; test_fits = tt }))
  told_held (some break_off) r = broken_held l.talk.out
  told_held (some disconnection) r = absent_held

  -- ---- the calls on it

  begin_facts : (m : List ℕ) → length m ≤ longest → T (all is_byte m) → LinkFacts a (with_talk l (record { hold = l.talk.hold; sn = l.talk.sn; out = sends (new_block m) }))
  begin_facts m h t = new_talk l.talk.hold l.talk.sn _ q.hold_most q.sn_most (begins m (text_make longest m (lit< tt) h t))

  fetched_facts : LinkFacts a (with_hear l (record { expected = l.hear.expected; bytes = []; complete = false; acknowledges = l.hear.acknowledges }))
  fetched_facts = new_hear _ q.expected_most (text_make longest [] (lit< tt) (omega arith) tt) tt

-- A FRAME
pub hears_held : (c : Connection) (id : ℕ) (b : List ℕ) → T (all is_byte b) → Held c → Held (hears c id b)
unfolding hears
hears_held absent id b t u = u
hears_held (opening a n s) id b t u =
    by_test Held (eqb id (0x200 + a.destination)) _ _ (λ z. replied_held a n s id (read_opening id b) u (opening_fits_law id b t)) u
hears_held (connecting a tx n s) id b t u =
    by_test Held (eqb id a.rx_id) _ _ (λ z. joined_held a tx n s (read_channel b) u (read_fits b t)) u
hears_held (standing a tx l) id b t u =
    by_test Held (eqb id a.rx_id) _ _ (λ z. told_held a tx l (standing_facts a tx l u) (read_channel b) (read_fits b t)) u
hears_held (leaving tx e) id b t u = u

-- THE CALLS
pub open_held : (a : Asked) → T (asked_fits a) → Held (opening a 0 waits)
open_held a t = opening_held a 0 waits (record { asked_ok = asked_make a t; few = omega arith; trial_ok = trial_waits })

pub begin_held : (m : List ℕ) (c : Connection) → length m ≤ longest → T (all is_byte m) → Held c → Held (begin m c)
unfolding begin on_link
begin_held m absent h t u = u
begin_held m (opening a n s) h t u = u
begin_held m (connecting a tx n s) h t u = u
begin_held m (standing a tx l) h t u = let f = standing_facts a tx l u in stays a tx l f _ (begin_facts a tx l f m h t)
begin_held m (leaving tx e) h t u = u

pub fetched_held : (c : Connection) → Held c → Held (fetched c)
unfolding fetched on_link
fetched_held absent u = u
fetched_held (opening a n s) u = u
fetched_held (connecting a tx n s) u = u
fetched_held (standing a tx l) u = let f = standing_facts a tx l u in stays a tx l f _ (fetched_facts a tx l f)
fetched_held (leaving tx e) u = u

pub ended_held : (c : Connection) → Held c → Held (ended c)
unfolding ended
ended_held absent u = u
ended_held (opening a n s) u = absent_held
ended_held (connecting a tx n s) u =
    let f = connecting_facts a tx n s u in
    leaving_held tx (due_in 0) (record { tx_narrow = f.1; exit_ok = exit_due 0 (omega arith) })
ended_held (standing a tx l) u = leave_held a tx l (standing_facts a tx l u)
ended_held (leaving tx e) u = u

-- ---- what is in flight afterwards was in flight before
