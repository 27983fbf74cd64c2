-- A conversation once its frame was sent, by the head of its transfer. Assumes nothing.
use Rattle.std.specs.Prelude.{if◌then◌else◌}
use mathlib.Core.Path.{◌≡◌, refl, sym, ap, ap₂, ◌∙◌, subst}
use Prim.Native.Nat.{ℕ, ◌+◌, ◌-◌, ◌^◌, ◌≤◌, ◌<◌}
use native.Mathlib.Omega.{arith}
use mathlib.Core.Bool.{Bool, true, false, ◌&&◌}
use mathlib.Core.Option.{Option, none, some}
use mathlib.Core.List.{List, [], ◌∷◌, ◌++◌}
use lib.ListN.{length, get_or, drop}
use lib.Dec.{T, eqb, leb}
use borrow.Author.Tests.{eq-eqb, ne_eqb, le-leb, lt-leb}
use Rattle.codec.specs.Word.{word, word_at}
use Rattle.codec.specs.Code.{word32, both, via, such, mark_of, slot}
use Rattle.codec.proofs.Tests.{left, right}
use Rattle.codec.proofs.Word.{word_back}
use Rattle.codec.proofs.Lawful.{ok_word}
use Rattle.machine.specs.Message.{Rec}
use Rattle.iso.specs.Iso.{Reception, Stage, opens, awaits, flies, sends, Transmission, Transfer, idle, refuses, receives, transmits, Talk, framed, staged, news_at, sent_stage, sent_of, whole_of, done_of}
use Rattle.iso_layout.specs.Sizes.{talk_size}
use Rattle.iso_layout.specs.Region.{transfer_parts, transmits_at, payload508, talk_cell}
use Rattle.talk_head.specs.Headed.{Tells, remains, payload_on, payload_at, head_at, head_bytes}
use Rattle.talk_head.specs.declared.Head.{Head}
use Rattle.talk_head.proofs.Bytes.{payload_count}
use Rattle.talk_head.proofs.Taken.{told, head_of, bytes_of, told_put, Taken, taken, stays, vacant}
use Rattle.talk_times.specs.Timed.{timed, idle_head}
use Rattle.talk_landing.specs.Landed.{awaiting, advanced, wide_at, flow_at, whole_if}

-- ---- what becomes of the transfer

unfoldable pub sent_head : ℕ → Head → Head
sent_head size h = if eqb h.kind 2 then timed h 0 else if eqb h.kind 3 then awaiting h.n else if eqb h.kind 5 then advanced h size else h

abbrev Landed : Transfer → Head → List ℕ → Type 0
Landed x h b = Tells (sent_head (length b) h) (remains (sent_head (length b) h) b) (sent_of x)

-- a consecutive frame was sent: it was the last of all, or of its block
abbrev flown : (n l g : ℕ) → Bool → Bool → Head
flown n l g all last = if all then idle_head else if last then awaiting n else record { kind = 6; n = n; time = g; left = l - 1; gap = g; waits = false }

stage_landed : (p : List ℕ) (n : ℕ) (s : Stage) → Landed (transmits_at p n s) (head_of (transfer_parts (transmits_at p n s))) (bytes_of (transfer_parts (transmits_at p n s)))
unfolding sent_head awaiting advanced idle_head remains sent_of sent_stage staged
stage_landed p n opens = refl
stage_landed p n (awaits run) = refl
stage_landed p n (sends l g w) = refl
stage_landed p n (flies l g) = go (leb (length p) n) (eqb l 1)
  where
    go : (all last : Bool)
        → Tells (flown n l g all last) (remains (flown n l g all last) p)
        (if all then idle else if last then staged (record { payload = p; taken = n; stage = flies l g }) (awaits 0) else staged (record { payload = p; taken = n; stage = flies l g }) (sends (l - 1) g g))
    go true last = refl
    go false true = refl
    go false false = refl

parts_landed : (x : Transfer) → Landed x (head_of (transfer_parts x)) (bytes_of (transfer_parts x))
unfolding sent_head timed remains sent_of
parts_landed idle = refl
parts_landed refuses = refl
parts_landed (receives r) = refl
parts_landed (transmits t) =
    let same : ◌≡◌ {A = Transmission} (record { payload = t.payload; taken = t.taken; stage = t.stage }) t = refl in
    subst (λ y. Landed (transmits y) (head_of (transfer_parts (transmits y))) (bytes_of (transfer_parts (transmits y)))) same (stage_landed t.payload t.taken t.stage)

pub sent_told : (h : Head) (size : ℕ) (b : List ℕ) (x : Transfer) → size ≡ length b → Tells h b x → Tells (sent_head size h) (remains (sent_head size h) b) (sent_of x)
sent_told h size b x s e = subst (λ (k : ℕ). Tells (sent_head k h) (remains (sent_head k h) b) (sent_of x)) (sym s) (told (Landed x) x (parts_landed x) h b e)

-- ---- which head code gives

module _ (h : Head) (size : ℕ) where
  abbrev one_of : Bool → Bool → Bool → Head
  one_of a b c = if a then timed h 0 else if b then awaiting h.n else if c then advanced h size else h

  sent_is : (a b c : Bool) → eqb h.kind 2 ≡ a → eqb h.kind 3 ≡ b → eqb h.kind 5 ≡ c → one_of a b c ≡ sent_head size h
  unfolding sent_head
  sent_is a b c ea eb ec = λ i. one_of (sym ea i) (sym eb i) (sym ec i)

  pub received_sent : h.kind ≡ 2 → timed h 0 ≡ sent_head size h
  received_sent e = sent_is true _ _ (eq-eqb h.kind 2 e) refl refl

  pub first_sent : (h.kind ≡ 2 → ⊥) → h.kind ≡ 3 → awaiting h.n ≡ sent_head size h
  first_sent n e = sent_is false true _ (ne_eqb h.kind 2 n) (eq-eqb h.kind 3 e) refl

  pub next_sent : (h.kind ≡ 2 → ⊥) → (h.kind ≡ 3 → ⊥) → h.kind ≡ 5 → advanced h size ≡ sent_head size h
  next_sent n m e = sent_is false false true (ne_eqb h.kind 2 n) (ne_eqb h.kind 3 m) (eq-eqb h.kind 5 e)

  pub else_sent : (h.kind ≡ 2 → ⊥) → (h.kind ≡ 3 → ⊥) → (h.kind ≡ 5 → ⊥) → h ≡ sent_head size h
  else_sent n m e = sent_is false false false (ne_eqb h.kind 2 n) (ne_eqb h.kind 3 m) (ne_eqb h.kind 5 e)

  advanced_is : (a b : Bool) → leb size h.n ≡ a → eqb h.left 1 ≡ b → flown h.n h.left h.gap a b ≡ advanced h size
  unfolding advanced
  advanced_is a b ea eb = λ i. flown h.n h.left h.gap (sym ea i) (sym eb i)

  pub all_sent : size ≤ h.n → idle_head ≡ advanced h size
  all_sent e = advanced_is true _ (le-leb size h.n e) refl

  pub block_sent : h.n < size → h.left ≡ 1 → awaiting h.n ≡ advanced h size
  block_sent k e = advanced_is false true (lt-leb size h.n k) (eq-eqb h.left 1 e)

  pub frame_sent : h.n < size → (h.left ≡ 1 → ⊥) → flown h.n h.left h.gap false false ≡ advanced h size
  frame_sent k e = advanced_is false false (lt-leb size h.n k) (ne_eqb h.left 1 e)

-- ---- the message that is whole

unfoldable pub whole_head : Head → ℕ → Bool
whole_head h size = eqb h.kind 5 && leb size h.n

module _ (c : Talk) where
  abbrev Whole : Transfer → Head → List ℕ → Type 0
  Whole x h b = done_of c x ≡ (if whole_head h (length b) then framed c.wide c.flow b ∷ [] else [])

  stage_whole : (p : List ℕ) (n : ℕ) (s : Stage) → Whole (transmits_at p n s) (head_of (transfer_parts (transmits_at p n s))) (bytes_of (transfer_parts (transmits_at p n s)))
  unfolding whole_head done_of whole_of
  stage_whole p n opens = refl
  stage_whole p n (awaits run) = refl
  stage_whole p n (flies l g) = refl
  stage_whole p n (sends l g w) = refl

  parts_whole : (x : Transfer) → Whole x (head_of (transfer_parts x)) (bytes_of (transfer_parts x))
  unfolding whole_head done_of
  parts_whole idle = refl
  parts_whole refuses = refl
  parts_whole (receives r) = refl
  parts_whole (transmits t) =
      let same : ◌≡◌ {A = Transmission} (record { payload = t.payload; taken = t.taken; stage = t.stage }) t = refl in
      subst (λ y. Whole (transmits y) (head_of (transfer_parts (transmits y))) (bytes_of (transfer_parts (transmits y)))) same (stage_whole t.payload t.taken t.stage)

-- the width and the flow identifier in a place
mark_wide : (w : Bool) (p f : ℕ) (rest : List ℕ) → eqb 1 (get_or ((1 ∷ mark_of w ∷ (word p ++ word f)) ++ rest) 1 0) ≡ w
mark_wide true p f rest = refl
mark_wide false p f rest = refl

word_flow : (w : Bool) (p f : ℕ) (rest : List ℕ) → f < 2 ^ 32 → word_at 6 ((1 ∷ mark_of w ∷ (word p ++ word f)) ++ rest) ≡ f
unfolding word word_at
word_flow w p f rest h = word_back f h

flow_small : (flags : ℕ) (c : Talk) → T ((talk_cell flags).ok c) → c.flow < 2 ^ 32
unfolding talk_cell such via both
flow_small flags c t = ok_word c.flow (search (left, right) depth 7)

module _ (flags : ℕ) (t : List ℕ) (l : length t ≡ talk_size) (v : T ((slot (talk_cell flags)).valid t)) where
  pub free_tells : get_or t 0 0 ≡ 0 → news_at (λ c. done_of c c.transfer) ((slot (talk_cell flags)).get t) ≡ whole_if false t
  unfolding news_at whole_if
  free_tells e = ap (news_at (λ c. done_of c c.transfer)) (vacant flags t l v e)

  module _ (n : get_or t 0 0 ≡ 0 → ⊥) (h : Head) (e : h ≡ head_at t) (size : ℕ) (s : size ≡ word_at payload_on t) where
    p : Taken flags t
    p = taken flags t l v n

    size_is : size ≡ length (payload_at t)
    size_is = s ∙ payload_count t l p.payload

    abbrev rest : List ℕ
    rest = head_bytes (head_at t) ++ payload508.put (payload_at t)

    laid : t ≡ (1 ∷ mark_of p.talk.wide ∷ (word p.talk.pattern ++ word p.talk.flow)) ++ rest
    laid = stays flags t l v ∙ ap (slot (talk_cell flags)).put p.is ∙ told_put flags p.talk (head_at t) (payload_at t) p.tells

    wide_is : wide_at t ≡ p.talk.wide
    unfolding wide_at
    wide_is = ap (λ (m : List ℕ). eqb 1 (get_or m 1 0)) laid ∙ mark_wide p.talk.wide p.talk.pattern p.talk.flow rest

    flow_is : flow_at t ≡ p.talk.flow
    unfolding flow_at
    flow_is = ap (word_at 6) laid ∙ word_flow p.talk.wide p.talk.pattern p.talk.flow rest (flow_small flags p.talk p.held)

    pub taken_tells : news_at (λ c. done_of c c.transfer) ((slot (talk_cell flags)).get t) ≡ whole_if (whole_head h size) t
    unfolding news_at whole_if
    taken_tells =
        ap (news_at (λ c. done_of c c.transfer)) p.is
        ∙ told (Whole p.talk p.talk.transfer) p.talk.transfer (parts_whole p.talk p.talk.transfer) (head_at t) (payload_at t) p.tells
        ∙ (λ i. if whole_head (sym e i) (sym size_is i) then framed (sym wide_is i) (sym flow_is i) (payload_at t) ∷ [] else [])

    pub taken_size : size ≡ length (payload_at t)
    taken_size = size_is
