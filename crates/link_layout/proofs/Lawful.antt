-- The connection's part of the region is a lawful code, of a fixed size. Assumes nothing.
use mathlib.Core.Path.{◌≡◌, refl, sym, ap, ◌∙◌, subst}
use Prim.Native.Nat.{ℕ, zero, suc, ◌≤◌}
use native.Mathlib.Omega.{arith}
use mathlib.Core.Bool.{Bool, true, false, ◌&&◌}
use mathlib.Core.Option.{Option, none, some}
use mathlib.Core.List.{List, [], ◌∷◌}
use lib.ListN.{length}
use lib.Dec.{T, eqb, leb, eqb→eq, leb→le}
use Rattle.codec.specs.Plain.{within}
use Rattle.codec.specs.Code.{Code, byte, word32, both, both_on, via, such, mark, many, present, text}
use Rattle.codec.proofs.Tests.{left, right}
use Rattle.codec.proofs.Lawful.{Lawful, byte_lawful, word_lawful, both_lawful, both_on_lawful, via_lawful, such_lawful, mark_lawful, such_test, such_under, both_first, both_second}
use Rattle.codec.proofs.Present.{present_lawful, not_there, is_there, text_lawful}
use Rattle.link.specs.Connection.{longest, mntc, Asked, asked_fits, Trial, waits, flies, runs, Block, Out, idle, sends, asks, Wire, spaced, carries, its_data, its_test, its_other, Link, Exit, due_in, due_behind, goes, Connection, absent, opening, connecting, standing, leaving}
use Rattle.link_layout.specs.Connection.{asked_parts, asked_back, asked, Which, trial_parts, trial_of, trial_fits, trial, trials, exit_parts, exit_of, exit_fits, leaves, wire_parts, wire_of, wire_fits, wire, block_parts, block_back, block, no_block, out_parts, out_of, out_fits, out, talk_parts, talk_back, talk, ack_parts, ack_of, ack, hear_parts, hear_back, hear, care_parts, care_back, care, link_parts, link_back, link, Parts, connection_parts, connection_back, joining, after, connection_fits, connection_part}

pub asked_lawful : Lawful asked
unfolding asked
asked_lawful =
    such_lawful asked_fits
    (via_lawful asked_parts asked_back (λ x t. refl) (λ p t. refl)
    (both_lawful word_lawful (both_lawful word_lawful (both_lawful byte_lawful (both_lawful byte_lawful (both_lawful byte_lawful (both_lawful byte_lawful byte_lawful)))))))

which_lawful : Lawful Which
which_lawful = both_lawful byte_lawful word_lawful

-- a number that is 0
is_zero : (k n : ℕ) → T (eqb n 0) → ◌≡◌ {A = ℕ × ℕ} (k, 0) (k, n)
is_zero k n t = λ i. (k, sym (eqb→eq n 0 t) i)

trial_back : (s : Trial) → trial_of (trial_parts s).0 (trial_parts s).1 ≡ s
trial_back waits = refl
trial_back flies = refl
trial_back (runs left) = refl

trial_there : (k n : ℕ) → T (trial_fits k n) → trial_parts (trial_of k n) ≡ (k, n)
trial_there zero n t = is_zero 0 n t
trial_there (suc zero) n t = is_zero 1 n t
trial_there (suc (suc zero)) n t = refl
trial_there (suc (suc (suc k))) n t = absurd t

pub trial_lawful : Lawful trial
unfolding trial
trial_lawful =
    via_lawful trial_parts (λ p. trial_of p.0 p.1) (λ s t. trial_back s)
    (λ p t. trial_there p.0 p.1 (such_test Which (λ p. trial_fits p.0 p.1) p t)) (such_lawful (λ p. trial_fits p.0 p.1) which_lawful)

pub trials_lawful : Lawful trials
unfolding trials
trials_lawful = both_lawful (such_lawful (λ n. leb n mntc) byte_lawful) trial_lawful

exit_back : (e : Exit) → exit_of (exit_parts e).0 (exit_parts e).1 ≡ e
exit_back (due_in left) = refl
exit_back (due_behind t3) = refl
exit_back goes = refl

exit_there : (k n : ℕ) → T (exit_fits k n) → exit_parts (exit_of k n) ≡ (k, n)
exit_there zero n t = refl
exit_there (suc zero) n t = refl
exit_there (suc (suc zero)) n t = is_zero 2 n t
exit_there (suc (suc (suc k))) n t = absurd t

pub leaves_lawful : Lawful leaves
unfolding leaves
leaves_lawful =
    via_lawful exit_parts (λ p. exit_of p.0 p.1) (λ s t. exit_back s)
    (λ p t. exit_there p.0 p.1 (such_test Which (λ p. exit_fits p.0 p.1) p t)) (such_lawful (λ p. exit_fits p.0 p.1) which_lawful)

wire_back : (w : Wire) → wire_of (wire_parts w).0 (wire_parts w).1 ≡ w
wire_back (spaced left) = refl
wire_back (carries its_data) = refl
wire_back (carries its_test) = refl
wire_back (carries its_other) = refl

wire_there : (k n : ℕ) → T (wire_fits k n) → wire_parts (wire_of k n) ≡ (k, n)
wire_there zero n t = refl
wire_there (suc zero) n t = is_zero 1 n t
wire_there (suc (suc zero)) n t = is_zero 2 n t
wire_there (suc (suc (suc zero))) n t = is_zero 3 n t
wire_there (suc (suc (suc (suc k)))) n t = absurd t

pub wire_lawful : Lawful wire
unfolding wire
wire_lawful =
    via_lawful wire_parts (λ p. wire_of p.0 p.1) (λ s t. wire_back s)
    (λ p t. wire_there p.0 p.1 (such_test Which (λ p. wire_fits p.0 p.1) p t)) (such_lawful (λ p. wire_fits p.0 p.1) which_lawful)

pub block_lawful : Lawful block
unfolding block
block_lawful = via_lawful block_parts block_back (λ b t. refl) (λ p t. refl) (both_lawful byte_lawful (both_lawful byte_lawful (both_lawful byte_lawful (text_lawful longest))))

nil_of : (b : List ℕ) → length b ≡ 0 → [] ≡ b
nil_of [] h = refl
nil_of (x ∷ b) h = absurd (omega arith)

no_block_law : (b : Block) → T (no_block b) → record { rest = []; taken = 0; repeats = 0; again = 0 } ≡ b
unfolding no_block
no_block_law b t =
    let p1 = eqb b.taken 0 in
    let p2 = eqb b.repeats 0 in
    let p3 = eqb b.again 0 in
    let p4 = eqb (length b.rest) 0 in
    let t3 = left (p1 && p2 && p3) p4 t in
    let t2 = left (p1 && p2) p3 t3 in
    λ i. record {
      rest = nil_of b.rest (eqb→eq _ 0 (right (p1 && p2 && p3) p4 t)) i;
      taken = sym (eqb→eq b.taken 0 (left p1 p2 t2)) i;
      repeats = sym (eqb→eq b.repeats 0 (right p1 p2 t2)) i;
      again = sym (eqb→eq b.again 0 (right (p1 && p2) p3 t3)) i;
    }

out_back : (o : Out) → out_of (out_parts o).0 (out_parts o).1.0 (out_parts o).1.1 ≡ o
out_back idle = refl
out_back (sends b) = refl
out_back (asks b left) = refl

out_there : (k n : ℕ) (b : Block) → T (out_fits k n b) → out_parts (out_of k n b) ≡ (k, (n, b))
out_there zero n b t = λ i. (0, (sym (eqb→eq n 0 (left (eqb n 0) (no_block b) t)) i, no_block_law b (right (eqb n 0) (no_block b) t) i))
out_there (suc zero) n b t = λ i. (1, (sym (eqb→eq n 0 t) i, b))
out_there (suc (suc zero)) n b t = refl
out_there (suc (suc (suc k))) n b t = absurd t

abbrev OutCode : Code (ℕ × (ℕ × Block))
OutCode = both byte (both word32 block)

pub out_code_lawful : Lawful out
unfolding out
out_code_lawful =
    via_lawful out_parts (λ p. out_of p.0 p.1.0 p.1.1) (λ o t. out_back o)
    (λ p t. out_there p.0 p.1.0 p.1.1 (such_test OutCode (λ p. out_fits p.0 p.1.0 p.1.1) p t))
    (such_lawful (λ p. out_fits p.0 p.1.0 p.1.1) (both_lawful byte_lawful (both_lawful word_lawful block_lawful)))

pub talk_lawful : Lawful talk
unfolding talk
talk_lawful = via_lawful talk_parts talk_back (λ x t. refl) (λ p t. refl) (both_lawful word_lawful (both_lawful byte_lawful out_code_lawful))

ack_back : (x : Option Bool) → ack_of (ack_parts x) ≡ x
ack_back none = refl
ack_back (some false) = refl
ack_back (some true) = refl

ack_there : (n : ℕ) → n ≤ 2 → ack_parts (ack_of n) ≡ n
ack_there zero h = refl
ack_there (suc zero) h = refl
ack_there (suc (suc zero)) h = refl
ack_there (suc (suc (suc n))) h = absurd (omega arith)

pub ack_lawful : Lawful ack
unfolding ack
ack_lawful = via_lawful ack_parts ack_of (λ x t. ack_back x) (λ n t. ack_there n (leb→le n 2 (such_test byte (λ n. leb n 2) n t))) (such_lawful (λ n. leb n 2) byte_lawful)

pub hear_lawful : Lawful hear
unfolding hear
hear_lawful = via_lawful hear_parts hear_back (λ x t. refl) (λ p t. refl) (both_lawful byte_lawful (both_lawful ack_lawful (both_lawful mark_lawful (text_lawful longest))))

pub care_lawful : Lawful care
unfolding care
care_lawful = via_lawful care_parts care_back (λ x t. refl) (λ p t. refl) (both_lawful mark_lawful (both_lawful mark_lawful (both_lawful byte_lawful word_lawful)))

pub link_lawful : Lawful link
unfolding link
link_lawful =
    via_lawful link_parts link_back (λ x t. refl) (λ p t. refl)
    (both_lawful byte_lawful (both_lawful byte_lawful (both_lawful wire_lawful (both_lawful care_lawful (both_lawful talk_lawful hear_lawful)))))

after_lawful : (k : ℕ) → Lawful (after k)
unfolding after
after_lawful k =
    both_lawful (present_lawful asked_lawful (within 1 3 k))
    (both_lawful (present_lawful word_lawful (within 2 4 k))
    (both_lawful (present_lawful trials_lawful (within 1 2 k)) (both_lawful (present_lawful leaves_lawful (eqb k 4)) (present_lawful link_lawful (eqb k 3)))))

after_size : (k : ℕ) → (after k).size ≡ (after 0).size
unfolding after both present
after_size k = refl

connection_back_law : (c : Connection) → connection_back (connection_parts c) ≡ c
connection_back_law absent = refl
connection_back_law (opening a n s) = refl
connection_back_law (connecting a tx n s) = refl
connection_back_law (standing a tx l) = refl
connection_back_law (leaving tx e) = refl

-- what is there in each state
module _ (x1 : Option Asked) (x2 : Option ℕ) (x3 : Option (ℕ × Trial)) (x4 : Option Exit) (x5 : Option Link) where
  abbrev There : ℕ → Type 0
  There k = connection_parts (joining x1 x2 x3 x4 x5) ≡ (k, (x1, (x2, (x3, (x4, x5)))))

  connection_there : (k : ℕ) → k ≤ 4 → T ((present (within 1 3 k) asked).ok x1) → T ((present (within 2 4 k) word32).ok x2)
      → T ((present (within 1 2 k) trials).ok x3) → T ((present (eqb k 4) leaves).ok x4) → T ((present (eqb k 3) link).ok x5) → There k
  unfolding within
  connection_there zero h t1 t2 t3 t4 t5 = rw (not_there asked x1 t1, not_there word32 x2 t2, not_there trials x3 t3, not_there leaves x4 t4, not_there link x5 t5)
  connection_there (suc zero) h t1 t2 t3 t4 t5 =
      let y1 = is_there asked x1 t1 in
      let y3 = is_there trials x3 t3 in
      rw (y1.1.0, not_there word32 x2 t2, y3.1.0, not_there leaves x4 t4, not_there link x5 t5)
  connection_there (suc (suc zero)) h t1 t2 t3 t4 t5 =
      let y1 = is_there asked x1 t1 in
      let y2 = is_there word32 x2 t2 in
      let y3 = is_there trials x3 t3 in
      rw (y1.1.0, y2.1.0, y3.1.0, not_there leaves x4 t4, not_there link x5 t5)
  connection_there (suc (suc (suc zero))) h t1 t2 t3 t4 t5 =
      let y1 = is_there asked x1 t1 in
      let y2 = is_there word32 x2 t2 in
      let y5 = is_there link x5 t5 in
      rw (y1.1.0, y2.1.0, not_there trials x3 t3, not_there leaves x4 t4, y5.1.0)
  connection_there (suc (suc (suc (suc zero)))) h t1 t2 t3 t4 t5 =
      let y2 = is_there word32 x2 t2 in
      let y4 = is_there leaves x4 t4 in
      rw (not_there asked x1 t1, y2.1.0, not_there trials x3 t3, y4.1.0, not_there link x5 t5)
  connection_there (suc (suc (suc (suc (suc k))))) h t1 t2 t3 t4 t5 = absurd (omega arith)

abbrev State : Code ℕ
State = such (λ k. leb k 4) byte

parts_there : (p : Parts) → T ((both_on (λ k. k) State after).ok p) → connection_parts (connection_back p) ≡ p
unfolding both_on after both such
parts_there p t =
    let k : ℕ = p.0 in
    let s : T (State.ok k) = left (State.ok k) ((after k).ok p.1) t in
    let r : T ((after k).ok p.1) = right (State.ok k) ((after k).ok p.1) t in
    let o1 = (present (within 1 3 k) asked).ok p.1.0 in
    let o2 = (present (within 2 4 k) word32).ok p.1.1.0 in
    let o3 = (present (within 1 2 k) trials).ok p.1.1.1.0 in
    let o4 = (present (eqb k 4) leaves).ok p.1.1.1.1.0 in
    let o5 = (present (eqb k 3) link).ok p.1.1.1.1.1 in
    let r2 = right o1 (o2 && (o3 && (o4 && o5))) r in
    let r3 = right o2 (o3 && (o4 && o5)) r2 in
    let r4 = right o3 (o4 && o5) r3 in
    connection_there p.1.0 p.1.1.0 p.1.1.1.0 p.1.1.1.1.0 p.1.1.1.1.1 k (leb→le k 4 (right (byte.ok k) (leb k 4) s))
    (left o1 (o2 && (o3 && (o4 && o5))) r) (left o2 (o3 && (o4 && o5)) r2) (left o3 (o4 && o5) r3) (left o4 o5 r4) (right o4 o5 r4)

pub connection_lawful : Lawful connection_part
unfolding connection_part
connection_lawful =
    such_lawful connection_fits
    (via_lawful connection_parts connection_back (λ c t. connection_back_law c) parts_there
    (both_on_lawful (λ k. k) (such_lawful (λ k. leb k 4) byte_lawful) after_lawful after_size))
