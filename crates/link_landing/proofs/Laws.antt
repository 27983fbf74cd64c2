-- The bytes of a connection when its frame was sent, state by state. Assumes nothing.
use mathlib.Core.Path.{◌≡◌, refl, sym, ap, ◌∙◌}
use Prim.Native.Nat.{ℕ, ◌+◌, ◌≤◌, ◌<◌, ◌^◌}
use native.Mathlib.Omega.{arith}
use mathlib.Core.List.{List, ◌∷◌}
use lib.ListN.{length, get_or, take, drop}
use lib.Dec.{T, lt→ltb}
use borrow.Rule.Slice.PartMut.{put_mid}
use Rattle.codec.specs.Plain.{zeros}
use Rattle.codec.specs.Word.{word}
use Rattle.codec.specs.Code.{byte, word32, both, via, such}
use Rattle.codec.proofs.Tests.{join}
use Rattle.codec.proofs.Part.{byte_of}
use Rattle.link.specs.Connection.{micros, Asked, Trial, Out, Care, Wire, spaced, carries, its_data, its_test, its_other, Link, Exit, due_in, due_behind, goes, Connection, absent, opening, connecting, standing, leaving, state_of, with_wire, with_talk, with_care, data_sent, landed_on, exit_sent, was_sent}
use Rattle.link_layout.specs.Sizes.{which_size, care_size, out_size, trials_size, asked_at, t1_in, trials_at, exit_at, standing_at, pace_in, wire_at, care_at, out_at}
use Rattle.link_layout.specs.Connection.{asked, trials, exit_parts, leaves, wire_parts, wire, out, care, connection_part}
use Rattle.link_layout.specs.Turned.{LinkPart}
use Rattle.link_layout.proofs.Talking.{micros_small}
use Rattle.link_layout.proofs.Bytes.{absent_bytes}
use Rattle.link_layout.proofs.Places.{held, kept, state_is, stands, asked_part, wire_part, pace_is, block_is, opening_trials_part, connecting_trials_part, leaving_exit_part, is_absent, is_standing, is_leaving, IsStanding, IsLeaving}
use Rattle.link_layout.proofs.Fieldwise.{Fields, fields, wire_next, out_slice, care_slice}
use Rattle.link_starts.specs.Started.{trials_sent, behind_sent, test_sent}
use Rattle.link_starts.proofs.Laws.{exit_tag, wire_tag}

-- ---- a part of the bytes that a function is lent: what it needs there, and the whole once it did its work

pub record Lent (m : List ℕ) (off n : ℕ) (valid : List ℕ → Type 0) (does : List ℕ → List ℕ) (to : List ℕ) : Type 0 where
  pub long : length (take n (drop off m)) ≡ n
  pub fine : valid (take n (drop off m))
  pub done : (ys : List ℕ) → ys ≡ does (take n (drop off m)) → put_mid off n m ys ≡ to

abbrev pub Sent : List ℕ → List ℕ
Sent m = connection_part.put (was_sent (connection_part.get m))

-- ---- the connection in each state

exit_still : (tx : ℕ) (x : Exit) → ((exit_parts x).0 ≡ 2 → ⊥) → leaving tx (behind_sent x) ≡ exit_sent tx x
unfolding behind_sent exit_sent
exit_still tx (due_in us) d = refl
exit_still tx (due_behind t3) d = refl
exit_still tx goes d = absurd (d refl)

exit_over : (tx : ℕ) (x : Exit) → (exit_parts x).0 ≡ 2 → absent ≡ exit_sent tx x
unfolding exit_sent
exit_over tx (due_in us) e = absurd (omega arith)
exit_over tx (due_behind t3) e = absurd (omega arith)
exit_over tx goes e = refl

spaced_put : (us : ℕ) → 0 ∷ word us ≡ wire.put (spaced us)
unfolding wire via such both byte word32
spaced_put us = refl

spaced_ok : (us : ℕ) → us ≤ 6300000 → T (wire.ok (spaced us))
unfolding wire via such both byte word32
spaced_ok us h = let k : us < 2 ^ 32 = omega arith in search (join, lt→ltb)

asked_t1 : (a : Asked) → get_or (asked.put a) t1_in 0 ≡ a.t1
unfolding asked via such both byte word32 word
asked_t1 a = refl

module _ (a : Asked) (l : Link) where
  quiet : (w : Wire) → (wire_parts w).0 ≡ 0 → l ≡ landed_on a l w
  unfolding landed_on
  quiet (spaced us) e = refl
  quiet (carries its_data) e = absurd (omega arith)
  quiet (carries its_test) e = absurd (omega arith)
  quiet (carries its_other) e = absurd (omega arith)

  data_lands : (w : Wire) → (wire_parts w).0 ≡ 1
      → with_talk (with_wire l (spaced (micros l.pace))) (record { hold = l.talk.hold; sn = l.talk.sn; out = data_sent a.t1 l.block l.talk.out }) ≡ landed_on a l w
  unfolding landed_on
  data_lands (spaced us) e = absurd (omega arith)
  data_lands (carries its_data) e = refl
  data_lands (carries its_test) e = absurd (omega arith)
  data_lands (carries its_other) e = absurd (omega arith)

  test_lands : (w : Wire) → (wire_parts w).0 ≡ 2 → with_care (with_wire l (spaced (micros l.pace))) (test_sent l.care) ≡ landed_on a l w
  unfolding landed_on test_sent
  test_lands (spaced us) e = absurd (omega arith)
  test_lands (carries its_data) e = absurd (omega arith)
  test_lands (carries its_test) e = refl
  test_lands (carries its_other) e = absurd (omega arith)

  other_lands : (w : Wire) → ((wire_parts w).0 ≡ 0 → ⊥) → ((wire_parts w).0 ≡ 1 → ⊥) → ((wire_parts w).0 ≡ 2 → ⊥) → with_wire l (spaced (micros l.pace)) ≡ landed_on a l w
  unfolding landed_on
  other_lands (spaced us) d e f = absurd (d refl)
  other_lands (carries its_data) d e f = absurd (e refl)
  other_lands (carries its_test) d e f = absurd (f refl)
  other_lands (carries its_other) d e f = refl

-- ---- on the bytes

module _ (m : List ℕ) (p : LinkPart m) where
  -- the connection once its frame was sent, by what it is
  becomes : (c c' : Connection) → held m p ≡ c → c' ≡ was_sent c → connection_part.put c' ≡ Sent m
  becomes c c' e q = ap connection_part.put (q ∙ ap was_sent (sym e))

  pub none_sent : get_or m 0 0 ≡ 0 → m ≡ Sent m
  unfolding was_sent
  none_sent z =
      let e = is_absent (held m p) (sym (state_is m p) ∙ z) in
      sym (kept m p) ∙ ap connection_part.put e ∙ becomes absent absent e refl

  -- an opening telegram
  abbrev Opened : Type 0
  Opened = Lent m trials_at trials_size (λ x. T (trials.valid x)) (λ x. trials.put (trials_sent (trials.get x))) (Sent m)

  opened : (c : Connection) → held m p ≡ c → (state_of c ≡ 0 → ⊥) → (state_of c ≡ 3 → ⊥) → (state_of c ≡ 4 → ⊥) → Opened
  unfolding state_of was_sent trials_sent
  opened absent e d f g = absurd (d refl)
  opened (opening a n s) e d f g =
      let q = opening_trials_part m p a n s e in
      record {
        long = q.long;
        fine = q.valid;
        done = λ ys y. q.becomes ys (trials_sent (n, s)) (y ∙ ap (λ (x : ℕ × Trial). trials.put (trials_sent x)) q.got) ∙ becomes (opening a n s) _ e refl;
      }
  opened (connecting a tx n s) e d f g =
      let q = connecting_trials_part m p a tx n s e in
      record {
        long = q.long;
        fine = q.valid;
        done = λ ys y. q.becomes ys (trials_sent (n, s)) (y ∙ ap (λ (x : ℕ × Trial). trials.put (trials_sent x)) q.got) ∙ becomes (connecting a tx n s) _ e refl;
      }
  opened (standing a tx l) e d f g = absurd (f refl)
  opened (leaving tx x) e d f g = absurd (g refl)

  pub opening_sent : (get_or m 0 0 ≡ 0 → ⊥) → (get_or m 0 0 ≡ 3 → ⊥) → (get_or m 0 0 ≡ 4 → ⊥) → Opened
  opening_sent d f g =
      opened (held m p) refl (λ e. d (state_is m p ∙ e)) (λ e. f (state_is m p ∙ e)) (λ e. g (state_is m p ∙ e))

  -- a disconnect telegram
  module _ (z : get_or m 0 0 ≡ 4) where
    abbrev pub leaver : IsLeaving (held m p)
    leaver = is_leaving (held m p) (sym (state_is m p) ∙ z)

    exit_which : get_or m exit_at 0 ≡ (exit_parts leaver.1.0).0
    exit_which = byte_of (leaving_exit_part m p leaver.0 leaver.1.0 leaver.1.1) 0 (omega arith) ∙ exit_tag leaver.1.0

    pub gone : get_or m exit_at 0 ≡ 2 → (ys : List ℕ) → ys ≡ zeros (length m) → ys ≡ Sent m
    unfolding was_sent
    gone e ys y =
        y ∙ ap (λ (k : ℕ). zeros k) p.long ∙ sym absent_bytes
        ∙ becomes _ absent leaver.1.1 (exit_over leaver.0 leaver.1.0 (sym exit_which ∙ e))

    pub behind : (get_or m exit_at 0 ≡ 2 → ⊥) → Lent m exit_at which_size (λ x. T (leaves.valid x)) (λ x. leaves.put (behind_sent (leaves.get x))) (Sent m)
    unfolding was_sent
    behind d =
        let q = leaving_exit_part m p leaver.0 leaver.1.0 leaver.1.1 in
        record {
          long = q.long;
          fine = q.valid;
          done = λ ys y.
              q.becomes ys (behind_sent leaver.1.0) (y ∙ ap (λ (x : Exit). leaves.put (behind_sent x)) q.got)
              ∙ becomes _ _ leaver.1.1 (exit_still leaver.0 leaver.1.0 (λ e. d (exit_which ∙ e)));
        }

  -- a telegram of a standing connection
  module _ (z : get_or m 0 0 ≡ 3) where
    abbrev pub stander : IsStanding (held m p)
    stander = is_standing (held m p) (sym (state_is m p) ∙ z)

    abbrev pub who : Asked
    who = stander.0

    abbrev pub tx : ℕ
    tx = stander.1.0

    abbrev pub l : Link
    l = stander.1.1.0

    abbrev pub e : held m p ≡ standing who tx l
    e = stander.1.1.1

    which : get_or m wire_at 0 ≡ (wire_parts l.wire).0
    which = byte_of (wire_part m p who tx l e) 0 (omega arith) ∙ wire_tag l.wire

    pub nothing_flew : get_or m wire_at 0 ≡ 0 → m ≡ Sent m
    unfolding was_sent
    nothing_flew w =
        sym (kept m p) ∙ ap connection_part.put e ∙ becomes _ _ e (ap (standing who tx) (quiet who l l.wire (sym which ∙ w)))

    t1_is : get_or m (asked_at + t1_in) 0 ≡ who.t1
    t1_is = byte_of (asked_part m p who tx l e) t1_in (omega arith) ∙ asked_t1 who

    -- T3 runs
    module _ (us : ℕ) (q : us ≡ micros (get_or m (standing_at + pace_in) 0)) (ys : List ℕ) (y : ys ≡ 0 ∷ word us) where
      abbrev pub m' : List ℕ
      m' = put_mid wire_at which_size m ys

      rests : us ≡ micros l.pace
      rests = q ∙ ap micros (pace_is m p who tx l e)

      runs_t3 : m' ≡ connection_part.put (standing who tx (with_wire l (spaced (micros l.pace))))
      runs_t3 = (wire_part m p who tx l e).becomes ys _ (y ∙ spaced_put us ∙ ap (λ (n : ℕ). wire.put (spaced n)) rests)

      next : Fields m' who tx (with_wire l (spaced (micros l.pace)))
      next = wire_next (fields m p who tx l e) _ (spaced_ok _ (micros_small l.pace (stands m p who tx l e).facts.pace_byte)) runs_t3

      pub data_flew : get_or m wire_at 0 ≡ 1 → (size t1 : ℕ) → size ≡ get_or m standing_at 0 → t1 ≡ get_or m (asked_at + t1_in) 0
          → Lent m' out_at out_size (λ x. T (out.valid x)) (λ x. out.put (data_sent t1 size (out.get x))) (Sent m)
      unfolding was_sent with_wire
      data_flew w size t1 es et =
          let o = out_slice next in
          let same : data_sent t1 size l.talk.out ≡ data_sent who.t1 l.block l.talk.out =
          ap (λ (n : ℕ). data_sent n size l.talk.out) (et ∙ t1_is) ∙ ap (λ (n : ℕ). data_sent who.t1 n l.talk.out) (es ∙ block_is m p who tx l e) in
          record {
            long = o.long;
            fine = o.valid;
            done = λ zs z.
                o.becomes zs (data_sent who.t1 l.block l.talk.out) (z ∙ ap (λ (x : Out). out.put (data_sent t1 size x)) o.got ∙ ap out.put same)
                ∙ becomes _ _ e (ap (standing who tx) (data_lands who l l.wire (sym which ∙ w)));
          }

      pub test_flew : get_or m wire_at 0 ≡ 2 → Lent m' care_at care_size (λ x. T (care.valid x)) (λ x. care.put (test_sent (care.get x))) (Sent m)
      unfolding was_sent with_wire
      test_flew w =
          let o = care_slice next in
          record {
            long = o.long;
            fine = o.valid;
            done = λ zs z.
                o.becomes zs (test_sent l.care) (z ∙ ap (λ (x : Care). care.put (test_sent x)) o.got)
                ∙ becomes _ _ e (ap (standing who tx) (test_lands who l l.wire (sym which ∙ w)));
          }

      pub other_flew : (get_or m wire_at 0 ≡ 0 → ⊥) → (get_or m wire_at 0 ≡ 1 → ⊥) → (get_or m wire_at 0 ≡ 2 → ⊥) → m' ≡ Sent m
      unfolding was_sent
      other_flew d f g =
          runs_t3 ∙ becomes _ _ e (ap (standing who tx) (other_lands who l l.wire (λ w. d (which ∙ w)) (λ w. f (which ∙ w)) (λ w. g (which ∙ w))))
