-- A message that starts on a conversation, by what stands in its place. Assumes nothing.
use Rattle.std.specs.Prelude.{if◌then◌else◌}
use mathlib.Core.Path.{◌≡◌, refl, sym, ap, ap₂, ◌∙◌, subst}
use Prim.Native.Nat.{ℕ, zero, suc}
use native.Mathlib.Omega.{arith}
use mathlib.Core.Bool.{Bool, true, false, true≢false, ◌&&◌, beq}
use mathlib.Core.Option.{Option, none, some}
use mathlib.Core.List.{List}
use lib.ListN.{length, get_or, take, drop}
use lib.Seq.{drop-drop, get_or-take, get_or-drop}
use lib.Dec.{T, eqb}
use Rattle.codec.specs.Word.{word_at}
use Rattle.codec.specs.Code.{byte, word32, both, via, such, mark, slot, get_slot}
use Rattle.codec.proofs.Word.{word_part}
use Rattle.machine.specs.Message.{Rec, bit, id_of}
use Rattle.iso.specs.Limits.{id_size, in_first}
use Rattle.iso.specs.Iso.{Stage, opens, awaits, flies, sends, Transmission, Transfer, idle, refuses, receives, transmits, Talk, transfer_at, Given, gives, first_frame, carries, start_of}
use Rattle.iso_layout.specs.Sizes.{talk_size, flow_in}
use Rattle.iso_layout.specs.Region.{transfer_parts, transmits_at, talk_cell}
use Rattle.talk_head.specs.declared.Head.{Head}
use Rattle.talk_head.specs.Headed.{Tells, payload_at, head_at, with_head, with_payload}
use Rattle.talk_head.proofs.Taken.{Taken, taken, told, head_of, bytes_of}
use Rattle.framing.specs.Data.{carried}
use Rattle.talk_giving.specs.Giving.{Gave}
use Rattle.talk_giving.proofs.Laws.{gives_none, gives_one}
use Rattle.talk_starting.specs.Starting.{may_start, first_taken}

-- ---- two marks

pub same_on : (a b : Bool) → a ≡ true → b ≡ beq a b
same_on true true e = refl
same_on true false e = refl
same_on false b e = absurd (true≢false (sym e))

-- ---- what stands in a place: its width and its flow identifier

wide_in : Option Talk → Bool
wide_in none = false
wide_in (some c) = c.wide

flow_of : Option Talk → ℕ
flow_of none = 0
flow_of (some c) = c.flow

module _ (flags : ℕ) (t : List ℕ) (on : get_or t 0 0 ≡ 0 → ⊥) where
  abbrev c : Talk
  c = (talk_cell flags).get (drop 1 t)

  slot_some : (k : ℕ) → get_or t 0 0 ≡ k → (slot (talk_cell flags)).get t ≡ some c
  unfolding slot
  slot_some zero e = absurd (on e)
  slot_some (suc k) e = ap (λ (k : ℕ). get_slot (talk_cell flags) k (drop 1 t)) e

  wide_there : c.wide ≡ eqb 1 (get_or t 1 0)
  unfolding talk_cell such via both mark byte
  wide_there = ap (eqb 1) (get_or-take 1 (drop 1 t) 0 0 (omega arith) ∙ get_or-drop 1 t 0 0)

  flow_there : c.flow ≡ word_at flow_in t
  unfolding talk_cell such via both mark byte word32
  flow_there =
      let d : drop 4 (drop 1 (drop 1 t)) ≡ drop 6 t = ap (λ (x : List ℕ). drop 4 x) (drop-drop 1 1 t) ∙ drop-drop 4 2 t in
      ap (λ (x : List ℕ). word_at 0 (take 4 x)) d ∙ word_part 6 t

  pub wide_is : (p : Taken flags t) → p.talk.wide ≡ eqb 1 (get_or t 1 0)
  unfolding wide_in
  wide_is p = sym (ap wide_in p.is) ∙ ap wide_in (slot_some (get_or t 0 0) refl) ∙ wide_there

  pub flow_is : (p : Taken flags t) → p.talk.flow ≡ word_at flow_in t
  unfolding flow_of
  flow_is p = sym (ap flow_of p.is) ∙ ap flow_of (slot_some (get_or t 0 0) refl) ∙ flow_there

-- ---- by the head of its transfer

module _ (m : Rec) (k : ℕ) (c : Talk) where
  abbrev pub first_given : Given
  first_given = record { frame = first_frame c (drop id_size m.bytes); owner = transfer_at k; transfer = transmits_at (drop id_size m.bytes) in_first opens }

  abbrev pub Starts : Transfer → Head → List ℕ → Type 0
  Starts x h b = start_of m k c x ≡ (if eqb h.kind 0 && carries (bit 0x100 m.tx) (id_of m.bytes) c then some first_given else none)

  stage_starts : (p : List ℕ) (n : ℕ) (s : Stage) → Starts (transmits_at p n s) (head_of (transfer_parts (transmits_at p n s))) (bytes_of (transfer_parts (transmits_at p n s)))
  unfolding start_of
  stage_starts p n opens = refl
  stage_starts p n (awaits run) = refl
  stage_starts p n (flies l g) = refl
  stage_starts p n (sends l g w) = refl

  parts_start : (x : Transfer) → Starts x (head_of (transfer_parts x)) (bytes_of (transfer_parts x))
  unfolding start_of gives
  parts_start idle = refl
  parts_start refuses = refl
  parts_start (receives r) = refl
  parts_start (transmits t) =
      let same : ◌≡◌ {A = Transmission} (record { payload = t.payload; taken = t.taken; stage = t.stage }) t = refl in
      subst (λ y. Starts (transmits y) (head_of (transfer_parts (transmits y))) (bytes_of (transfer_parts (transmits y)))) same (stage_starts t.payload t.taken t.stage)

  pub start_told : (h : Head) (b : List ℕ) (x : Transfer) → Tells h b x → Starts x h b
  start_told h b x e = told (Starts x) x (parts_start x) h b e

-- ---- what code gives

module _ (t : List ℕ) (l : length t ≡ talk_size) (on : get_or t 0 0 ≡ 0 → ⊥) (m : Rec) (k : ℕ) (wide : Bool) (id : ℕ) (ew : bit 0x100 m.tx ≡ wide) (ei : id_of m.bytes ≡ id) where
  abbrev starting : Talk → Option Given
  starting c = start_of m k c c.transfer

  may_is : (flags : ℕ) (v : T ((slot (talk_cell flags)).valid t)) → eqb (head_at t).kind 0 && carries (bit 0x100 m.tx) (id_of m.bytes) (taken flags t l v on).talk ≡ may_start wide id t
  unfolding may_start carries
  may_is flags v =
      let p : Taken flags t = taken flags t l v on in
      ap₂ (λ (x y : Bool). eqb (head_at t).kind 0 && (x && y)) (ap₂ (λ (x y : Bool). beq x y) ew (wide_is flags t on p)) (ap₂ (λ (x y : ℕ). eqb x y) ei (flow_is flags t on p))

  given : (flags : ℕ) (v : T ((slot (talk_cell flags)).valid t)) (b : Bool) → may_start wide id t ≡ b → starting (taken flags t l v on).talk ≡ (if b then some (first_given m k (taken flags t l v on).talk) else none)
  given flags v b e =
      let p : Taken flags t = taken flags t l v on in
      start_told m k p.talk (head_at t) (payload_at t) p.talk.transfer p.tells ∙ ap (λ (q : Bool). if q then some (first_given m k p.talk) else none) (may_is flags v ∙ e)

  pub starts_none : (d : List ℕ) → may_start wide id t ≡ false → Gave starting 0 d t t
  starts_none d e = λ flags v. gives_none starting flags t l v (taken flags t l v on) d (given flags v false e)

  pub starts_one : (n : ℕ) (d u b : List ℕ) → drop id_size m.bytes ≡ b → may_start wide id t ≡ true → ((c : Talk) → take n d ≡ carried (first_frame c b)) → u ≡ with_payload b (with_head first_taken t) → Gave starting n d t u
  unfolding first_taken
  starts_one n d u b eb e ed eu =
      λ flags v.
      let p : Taken flags t = taken flags t l v on in
      gives_one starting flags t l v p (first_given m k p.talk) n d u (given flags v true e) (ed p.talk ∙ ap (λ (y : List ℕ). carried (first_frame p.talk y)) (sym eb))
      (eu ∙ ap (λ (y : List ℕ). with_payload y (with_head first_taken t)) (sym eb) ∙ p.becomes first_taken (drop id_size m.bytes) (transmits_at (drop id_size m.bytes) in_first opens) refl)
