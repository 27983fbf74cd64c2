-- What a connection does keeps what its part of the region can hold: plain facts of each part, made and taken out. Assumes nothing.
use Rattle.std.specs.Prelude.{if◌then◌else◌}
use mathlib.Core.Path.{◌≡◌, refl, sym, ap, ◌∙◌, subst}
use Prim.Native.Nat.{ℕ, zero, suc, ◌+◌, ◌*◌, ◌-◌, ◌/◌, ◌%◌, ◌^◌, ◌≤◌, ◌<◌, min}
use native.Mathlib.Omega.{arith}
use mathlib.Core.Bool.{Bool, true, false, not, ◌&&◌, ◌||◌}
use mathlib.Core.Option.{Option, none, some}
use mathlib.Core.List.{List, [], ◌∷◌, ◌++◌}
use lib.ListN.{length, get_or, take, drop}
use lib.Dec.{T, eqb, leb, ltb, eqb→eq, eqb_refl, leb→le, le→leb, ltb→lt, lt→ltb, nleb→lt, nltb→le, lit<}
use Rattle.codec.specs.Plain.{within, all, is_byte}
use Rattle.codec.specs.Code.{Code, byte, word32, both, both_on, via, such, mark, present, text}
use Rattle.codec.proofs.Tests.{left, right, join, or_either, or_left, or_right, within_low, within_high}
use Rattle.codec.proofs.Lawful.{mark_ok}
use Rattle.codec.proofs.Present.{text_make, text_count, text_bytes}
use borrow.Author.Tests.{eqb-false}
use Rattle.telegram.specs.Telegram.{unused_time, own_connection, time_of, fits, is_application, fields_fit, opening_fits}
use Rattle.link.specs.Connection.{t_e, t_wait, t_test, mntc, mnt, mntb, mnct, longest, micros, Asked, asked_fits, ours, set_up_of, Trial, waits, flies, runs, Block, new_block, telegrams, block_of, Out, idle, sends, asks, Talk, Hear, Care, Kind, its_data, its_test, its_other, Wire, spaced, carries, Link, Exit, due_in, due_behind, goes, Connection, absent, opening, connecting, standing, leaving}
use Rattle.link_layout.specs.Connection.{asked_parts, asked, Which, trial_parts, trial_fits, trial, trials, exit_parts, exit_fits, leaves, wire_parts, wire_fits, wire, block_parts, block, no_block, out_parts, out_fits, out, talk_parts, talk, ack_parts, ack, hear_parts, hear, care_parts, care, link_parts, link, connection_parts, after, is_data, is_test, space_fits, repeats_fit, t1_fits, out_in, link_fits, connection_fits, connection_part}

-- ---- times

unit_small : (k n : ℕ) → k ≤ 3 → n ≤ 63 → get_or (1 ∷ 10 ∷ 100 ∷ 1000 ∷ []) k 0 * n ≤ 63000
unit_small zero n h g = omega arith
unit_small (suc zero) n h g = omega arith
unit_small (suc (suc zero)) n h g = omega arith
unit_small (suc (suc (suc zero))) n h g = omega arith
unit_small (suc (suc (suc (suc k)))) n h g = absurd (omega arith)

-- the longest time of a time byte is 6.3 s
pub micros_small : (b : ℕ) → b < 256 → micros b ≤ 6300000
unfolding micros time_of
micros_small b h = let k = unit_small (b / 64) (b % 64) (omega arith) (omega arith) in omega arith

-- ---- blocks: at least one telegram, at most as many as the block size

pub telegrams_some : (rest : List ℕ) → 1 ≤ telegrams rest
unfolding telegrams
telegrams_some rest = go (eqb (length rest) 0) refl
  where
    go : (b : Bool) → eqb (length rest) 0 ≡ b → 1 ≤ (if b then 1 else (length rest + 6) / 7)
    go true e = omega arith
    go false e = let h : length rest ≡ 0 → ⊥ = eqb-false (length rest) 0 e in omega arith

pub block_some : (size : ℕ) (rest : List ℕ) → 1 ≤ size → 1 ≤ block_of size rest
unfolding block_of
block_some size rest h = let k = telegrams_some rest in omega arith

pub block_most : (size : ℕ) (rest : List ℕ) → block_of size rest ≤ size
unfolding block_of
block_most size rest = omega arith

-- ---- plain facts

-- what was asked for
pub asked_fits_law : (a : Asked) → T (asked.ok a) → T (asked_fits a)
unfolding asked such
asked_fits_law a t = search right

pub record AskedFacts (a : Asked) : Type 0 where
  pub own_high : a.own ≤ 0x2EF
  pub destination_high : a.destination ≤ 0xEF
  pub rx_id_high : a.rx_id ≤ 0x7FF
  pub application_is : T (is_application a.application)
  pub block_size_low : 1 ≤ a.block_size
  pub block_size_high : a.block_size ≤ 15
  pub t1_high : a.t1 ≤ 0xFF
  pub t3_high : a.t3 ≤ 0xFF

pub asked_facts : (a : Asked) → T (asked_fits a) → AskedFacts a
unfolding asked_fits opening_fits fields_fit set_up_of fits ours own_connection unused_time
asked_facts a t = search (left, right, leb→le) depth 9

application_small : (n : ℕ) → T (is_application n) → n < 256
application_small n t =
    or_either (eqb n 0x01) _ (λ e. let h = eqb→eq n 0x01 e in omega arith)
    (or_either (eqb n 0x10) _ (λ e. let h = eqb→eq n 0x10 e in omega arith)
    (or_either (eqb n 0x20) _ (λ e. let h = eqb→eq n 0x20 e in omega arith) (λ e. let h = eqb→eq n 0x21 e in omega arith))) t

pub asked_make : (a : Asked) → T (asked_fits a) → T (asked.ok a)
unfolding asked such via both byte word32
asked_make a t =
    let f = asked_facts a t in
    let own : a.own < 2 ^ 32 = omega (arith, f.own_high) in
    let rx : a.rx_id < 2 ^ 32 = omega (arith, f.rx_id_high) in
    let destination : a.destination < 256 = omega (arith, f.destination_high) in
    let application : a.application < 256 = application_small a.application f.application_is in
    let size : a.block_size < 256 = omega (arith, f.block_size_high) in
    let t1 : a.t1 < 256 = omega (arith, f.t1_high) in
    let t3 : a.t3 < 256 = omega (arith, f.t3_high) in
    search (join, lt→ltb) depth 9

-- ---- a message under way

pub record BlockFacts (b : Block) : Type 0 where
  pub rest_ok : T ((text longest).ok b.rest)
  pub repeats_most : b.repeats ≤ mnt
  pub again_most : b.again ≤ mntb

abbrev pub OutFacts : ℕ → ℕ → Bool → Out → Type 0
OutFacts t1 size flying idle = T (not flying)
OutFacts t1 size flying (sends b) =
    BlockFacts b × T (if flying then leb b.taken (block_of size b.rest) else ltb b.taken (block_of size b.rest))
OutFacts t1 size flying (asks b left) = BlockFacts b × T (not flying) × (b.taken ≡ block_of size b.rest) × T (t1_fits t1 left)

eq→eqb : (m n : ℕ) → m ≡ n → T (eqb m n)
eq→eqb m n e = subst (λ (k : ℕ). T (eqb m k)) e (eqb_refl m)

taken_most : (flying : Bool) (k n : ℕ) → T (if flying then leb k n else ltb k n) → k ≤ n
taken_most true k n t = leb→le k n t
taken_most false k n t = let h = ltb→lt k n t in omega arith

t1_left : (t1 us : ℕ) → t1 < 256 → T (t1_fits t1 us) → us ≤ 6300000
unfolding t1_fits
t1_left t1 us h t = go (eqb t1 0xFF) t
  where
    go : (b : Bool) → T (if b then eqb us 0 else leb us (micros t1) && (ltb 0 us || eqb (micros t1) 0)) → us ≤ 6300000
    go true u = let e = eqb→eq us 0 u in omega arith
    go false u = let e = leb→le us (micros t1) (search left) in omega (arith, micros_small t1 h)

block_make : (b : Block) (n : ℕ) → BlockFacts b → b.taken ≤ n → n ≤ 15 → T (block.ok b)
unfolding block via both byte
block_make b n f h g =
    let k1 : b.taken < 256 = omega arith in
    let k2 : b.repeats < 256 = omega (arith, f.repeats_most) in
    let k3 : b.again < 256 = omega (arith, f.again_most) in
    search (join, lt→ltb)

nil_ok : T ((text longest).ok [])
nil_ok = text_make longest [] (lit< tt) (omega arith) tt

out_make : (t1 size : ℕ) (flying : Bool) (o : Out) → t1 < 256 → size ≤ 15 → OutFacts t1 size flying o → T (out.ok o)
unfolding out such via both byte word32 no_block
out_make t1 size flying idle h g f =
    let b : T (block.ok (record { rest = []; taken = 0; repeats = 0; again = 0 })) =
    block_make _ 0 (record { rest_ok = nil_ok; repeats_most = omega arith; again_most = omega arith }) (omega arith) (omega arith) in
    search join
out_make t1 size flying (sends b) h g f =
    let k = block_make b (block_of size b.rest) f.0 (taken_most flying b.taken (block_of size b.rest) f.1) (omega (arith, block_most size b.rest)) in
    search join
out_make t1 size flying (asks b us) h g f =
    let k = block_make b (block_of size b.rest) f.0 (omega (arith, f.2)) (omega (arith, block_most size b.rest)) in
    let small : us < 2 ^ 32 = omega (arith, t1_left t1 us h f.3) in
    search (join, lt→ltb)

in_make : (t1 size : ℕ) (flying : Bool) (o : Out) → OutFacts t1 size flying o → T (out_in t1 size flying o)
unfolding repeats_fit
in_make t1 size flying idle f = f
in_make t1 size flying (sends b) f = let k = f.0 in search (join, le→leb)
in_make t1 size flying (asks b us) f = let k = f.0 in let e = eq→eqb b.taken (block_of size b.rest) f.2 in search (join, le→leb)

block_rest : (b : Block) → T (block.ok b) → T ((text longest).ok b.rest)
unfolding block via both
block_rest b t = search right

out_facts : (t1 size : ℕ) (flying : Bool) (o : Out) → T (out.ok o) → T (out_in t1 size flying o) → OutFacts t1 size flying o
unfolding out such via both repeats_fit
out_facts t1 size flying idle t u = u
out_facts t1 size flying (sends b) t u =
    let k : T (block.ok b) = search (left, right) in
    let r = block_rest b k in
    search (left, right, leb→le)
out_facts t1 size flying (asks b us) t u =
    let k : T (block.ok b) = search (left, right) in
    let r = block_rest b k in
    let e : T (eqb b.taken (block_of size b.rest)) = search (left, right) in
    let same = eqb→eq b.taken (block_of size b.rest) e in
    search (left, right, leb→le)

-- ---- a standing connection

pub record LinkFacts (a : Asked) (l : Link) : Type 0 where
  pub block_low : 1 ≤ l.block
  pub block_high : l.block ≤ a.block_size
  pub pace_byte : l.pace < 256
  pub space : T (space_fits l.pace l.wire)
  pub hold_most : l.talk.hold ≤ t_wait
  pub sn_most : l.talk.sn ≤ 15
  pub sending : OutFacts a.t1 l.block (is_data l.wire) l.talk.out
  pub expected_most : l.hear.expected ≤ 15
  pub bytes_ok : T ((text longest).ok l.hear.bytes)
  pub complete_fits : T (not l.hear.complete || ltb 0 (length l.hear.bytes))
  pub unanswered_most : l.care.unanswered < mnct + 2
  pub left_most : l.care.left ≤ t_test
  pub test_fits : T (ltb 0 l.care.left || (l.care.tests || is_test l.wire))

wire_make : (pace : ℕ) (w : Wire) → pace < 256 → T (space_fits pace w) → T (wire.ok w)
unfolding wire such via both byte word32
wire_make pace (spaced us) h t =
    let small : us < 2 ^ 32 = omega (arith, leb→le us (micros pace) t, micros_small pace h) in
    search (join, lt→ltb)
wire_make pace (carries its_data) h t = tt
wire_make pace (carries its_test) h t = tt
wire_make pace (carries its_other) h t = tt

ack_make : (x : Option Bool) → T (ack.ok x)
unfolding ack such via byte
ack_make none = tt
ack_make (some false) = tt
ack_make (some true) = tt

pub link_make : (a : Asked) (l : Link) → T (asked.ok a) → LinkFacts a l → T (link.ok l) × T (link_fits a l)
unfolding link talk hear care via both byte word32 link_fits within
link_make a l t f =
    let q = asked_facts a (asked_fits_law a t) in
    let size : l.block ≤ 15 = omega (arith, f.block_high, q.block_size_high) in
    let t1 : a.t1 < 256 = omega (arith, q.t1_high) in
    let k1 : l.block < 256 = omega arith in
    let w = wire_make l.pace l.wire f.pace_byte f.space in
    let k2 : l.care.unanswered < 256 = omega (arith, f.unanswered_most) in
    let k3 : l.care.left < 2 ^ 32 = omega (arith, f.left_most) in
    let k4 : l.talk.hold < 2 ^ 32 = omega (arith, f.hold_most) in
    let k5 : l.talk.sn < 256 = omega (arith, f.sn_most) in
    let k6 : l.hear.expected < 256 = omega (arith, f.expected_most) in
    let o = out_make a.t1 l.block (is_data l.wire) l.talk.out t1 size f.sending in
    let i = in_make a.t1 l.block (is_data l.wire) l.talk.out f.sending in
    (search (join, lt→ltb, mark_ok, ack_make) depth 9, search (join, le→leb) depth 12)

pub link_facts : (a : Asked) (l : Link) → T (link.ok l) → T (link_fits a l) → LinkFacts a l
unfolding link talk hear care via both byte link_fits within
link_facts a l t u =
    let o : T (out.ok l.talk.out) = search (left, right) depth 9 in
    let i : T (out_in a.t1 l.block (is_data l.wire) l.talk.out) = search (left, right) depth 12 in
    let f = out_facts a.t1 l.block (is_data l.wire) l.talk.out o i in
    search (left, right, leb→le) depth 12

-- ---- the connection in each state

pub record Trying (a : Asked) (n : ℕ) (s : Trial) : Type 0 where
  pub asked_ok : T (asked.ok a)
  pub few : n ≤ mntc
  pub trial_ok : T (trial.ok s)

pub record Standing (a : Asked) (tx : ℕ) (l : Link) : Type 0 where
  pub asked_ok : T (asked.ok a)
  pub tx_narrow : tx ≤ 0x7FF
  pub facts : LinkFacts a l

pub record Leaving (tx : ℕ) (e : Exit) : Type 0 where
  pub tx_narrow : tx ≤ 0x7FF
  pub exit_ok : T (leaves.ok e)

abbrev pub Held : Connection → Type 0
Held c = T (connection_part.ok c)

pub absent_held : Held absent
unfolding connection_part such via both_on both present after within connection_fits byte
absent_held = tt

pub opening_held : (a : Asked) (n : ℕ) (s : Trial) → Trying a n s → Held (opening a n s)
unfolding connection_part such via both_on both present after within connection_fits byte trials
opening_held a n s f = let k : n < 256 = omega (arith, f.few) in search (join, lt→ltb, le→leb) depth 9

pub opening_facts : (a : Asked) (n : ℕ) (s : Trial) → Held (opening a n s) → Trying a n s
unfolding connection_part such via both_on both present after within connection_fits trials byte
opening_facts a n s t =
    let u : T ((asked.ok a && (trials.ok (n, s) && true)) && true) = t in
    search (left, right, leb→le) depth 9

pub connecting_held : (a : Asked) (tx n : ℕ) (s : Trial) → tx ≤ 0x7FF → Trying a n s → Held (connecting a tx n s)
unfolding connection_part such via both_on both present after within connection_fits byte word32 trials
connecting_held a tx n s h f =
    let k : n < 256 = omega (arith, f.few) in
    let m : tx < 2 ^ 32 = omega arith in
    search (join, lt→ltb, le→leb) depth 9

pub connecting_facts : (a : Asked) (tx n : ℕ) (s : Trial) → Held (connecting a tx n s) → Trying a n s × (tx ≤ 0x7FF)
unfolding connection_part such via both_on both present after within connection_fits trials
connecting_facts a tx n s t = search (left, right, leb→le) depth 9

pub standing_held : (a : Asked) (tx : ℕ) (l : Link) → Standing a tx l → Held (standing a tx l)
unfolding connection_part such via both_on both present after within connection_fits byte word32
standing_held a tx l f =
    let k = link_make a l f.asked_ok f.facts in
    let m : tx < 2 ^ 32 = omega (arith, f.tx_narrow) in
    search (join, lt→ltb, le→leb) depth 9

pub standing_facts : (a : Asked) (tx : ℕ) (l : Link) → Held (standing a tx l) → Standing a tx l
unfolding connection_part such via both_on both present after within connection_fits
standing_facts a tx l t =
    let k : T (link.ok l) = search (left, right) depth 9 in
    let u : T (link_fits a l) = search (left, right) depth 9 in
    let f = link_facts a l k u in
    search (left, right, leb→le) depth 9

pub leaving_held : (tx : ℕ) (e : Exit) → Leaving tx e → Held (leaving tx e)
unfolding connection_part such via both_on both present after within connection_fits byte word32
leaving_held tx e f = let m : tx < 2 ^ 32 = omega (arith, f.tx_narrow) in search (join, lt→ltb, le→leb) depth 9

pub leaving_facts : (tx : ℕ) (e : Exit) → Held (leaving tx e) → Leaving tx e
unfolding connection_part such via both_on both present after within connection_fits byte
leaving_facts tx e t =
    let u : T ((word32.ok tx && (leaves.ok e && true)) && leb tx 0x7FF) = t in
    search (left, right, leb→le) depth 9
