-- What a conversation gives, by the head of its transfer, and what its place then holds. Assumes nothing.
use Rattle.std.specs.Prelude.{if◌then◌else◌}
use mathlib.Core.Path.{◌≡◌, refl, sym, ap, ◌∙◌, subst}
use Prim.Native.Nat.{ℕ, ◌+◌, ◌-◌, ◌≤◌, ◌<◌}
use native.Mathlib.Omega.{arith}
use mathlib.Core.Bool.{Bool, true, false, true≢false}
use mathlib.Core.Option.{Option, none, some}
use mathlib.Core.List.{List}
use lib.ListN.{length, get_or, take, drop}
use lib.Dec.{T, eqb, eqb→eq, ltb→lt}
use borrow.Author.Tests.{eq-eqb, ne_eqb}
use Rattle.codec.proofs.Tests.{left, right, true_T}
use Rattle.codec.specs.Code.{slot}
use Rattle.iso.specs.Limits.{most_payload}
use Rattle.iso.specs.Iso.{Stage, opens, awaits, flies, sends, Transmission, Transfer, idle, refuses, receives, transmits, Talk, Owner, nobody, transfer_at, Given, gives, turned, flow_frame, next_frame, answer_of, next_of, segment_of}
use Rattle.iso_layout.specs.Sizes.{talk_size}
use Rattle.iso_layout.specs.Region.{transfer_parts, transmits_at, kind_fits, transfer_fits, payload508, talk_cell}
use Rattle.talk_head.specs.declared.Head.{Head}
use Rattle.talk_head.specs.Headed.{Tells, Held, headed, remains, payload_on, bytes_on, payload_at, head_at, with_head, settled}
use Rattle.talk_head.proofs.Taken.{Taken, taken, vacant, stays, told, head_of, bytes_of}
use Rattle.talk_head.proofs.Bytes.{payload_short, payload_is}
use Rattle.framing.specs.Data.{carried, taken_of}
use Rattle.talk_giving.specs.Giving.{flow_waits, flow_status, flow_taken, next_due, next_taken, Placed, data_of, after, given_by, left_by, Gave}

-- ---- a place that gives nothing stays as it is

module _ (f : Talk → Option Given) (flags : ℕ) (t : List ℕ) (l : length t ≡ talk_size) (v : T ((slot (talk_cell flags)).valid t)) where
  abbrev Done : ℕ → List ℕ → List ℕ → Type 0
  Done n d u = (take n d ≡ given_by f ((slot (talk_cell flags)).get t)) × (u ≡ (slot (talk_cell flags)).put (left_by f ((slot (talk_cell flags)).get t)))

  pub free_gives : (d : List ℕ) → get_or t 0 0 ≡ 0 → Done 0 d t
  unfolding given_by left_by
  free_gives d e =
      let g : (slot (talk_cell flags)).get t ≡ none = vacant flags t l v e in
      (sym (ap (given_by f) g), stays flags t l v ∙ ap (slot (talk_cell flags)).put (g ∙ sym (ap (left_by f) g)))

  module _ (p : Taken flags t) where
    pub gives_none : (d : List ℕ) → f p.talk ≡ none → Done 0 d t
    unfolding given_by left_by data_of after
    gives_none d e =
        let g : (slot (talk_cell flags)).get t ≡ some p.talk = p.is in (
          sym (ap (given_by f) g ∙ ap data_of e),
          stays flags t l v ∙ ap (slot (talk_cell flags)).put (g ∙ sym (ap (left_by f) g ∙ ap (λ y. some (after p.talk y)) e)),
        )

    pub gives_one : (g : Given) (n : ℕ) (d u : List ℕ) → f p.talk ≡ some g → take n d ≡ carried g.frame → u ≡ (slot (talk_cell flags)).put (some (turned p.talk g.transfer)) → Done n d u
    unfolding given_by left_by data_of after
    gives_one g n d u e ed eu =
        let q : (slot (talk_cell flags)).get t ≡ some p.talk = p.is in (
          ed ∙ sym (ap (given_by f) q ∙ ap data_of e),
          eu ∙ ap (slot (talk_cell flags)).put (sym (ap (left_by f) q ∙ ap (λ y. some (after p.talk y)) e)),
        )

-- ---- a flow frame, by the head of its transfer

-- what a flow frame that waits belongs to
unfoldable pub flow_owner : ℕ → Head → Owner
flow_owner k h = if eqb h.kind 1 then nobody else transfer_at k

module _ (k : ℕ) (c : Talk) where
  abbrev pub flow_given : Head → List ℕ → Given
  flow_given h b = record { frame = flow_frame c (flow_status h); owner = flow_owner k h; transfer = headed (flow_taken h) (remains (flow_taken h) b) }

  abbrev pub Answers : Transfer → Head → List ℕ → Type 0
  Answers x h b =
      (answer_of k c x ≡ (if flow_waits h then some (flow_given h b) else none))
      × (flow_waits h ≡ true → Tells (flow_taken h) (remains (flow_taken h) b) (headed (flow_taken h) (remains (flow_taken h) b)))

  stage_answers : (p : List ℕ) (n : ℕ) (s : Stage) → Answers (transmits_at p n s) (head_of (transfer_parts (transmits_at p n s))) (bytes_of (transfer_parts (transmits_at p n s)))
  unfolding answer_of flow_waits
  stage_answers p n opens = (refl, λ e. absurd (true≢false (sym e)))
  stage_answers p n (awaits run) = (refl, λ e. absurd (true≢false (sym e)))
  stage_answers p n (flies l g) = (refl, λ e. absurd (true≢false (sym e)))
  stage_answers p n (sends l g w) = (refl, λ e. absurd (true≢false (sym e)))

  parts_answer : (x : Transfer) → Answers x (head_of (transfer_parts x)) (bytes_of (transfer_parts x))
  unfolding answer_of flow_waits flow_status flow_taken flow_owner remains headed gives
  parts_answer idle = (refl, λ e. absurd (true≢false (sym e)))
  parts_answer refuses = (refl, λ e. refl)
  parts_answer (transmits t) =
      let same : ◌≡◌ {A = Transmission} (record { payload = t.payload; taken = t.taken; stage = t.stage }) t = refl in
      subst (λ y. Answers (transmits y) (head_of (transfer_parts (transmits y))) (bytes_of (transfer_parts (transmits y)))) same (stage_answers t.payload t.taken t.stage)
  parts_answer (receives r) = (refl, λ e. refl)

  pub answer_told : (h : Head) (b : List ℕ) (x : Transfer) → Tells h b x → Answers x h b
  answer_told h b x e = told (Answers x) x (parts_answer x) h b e

-- ---- the next frame

module _ (k : ℕ) (c : Talk) where
  abbrev pub next_given : Head → List ℕ → Given
  next_given h b = record { frame = next_frame c (taken_of b h.n (sends h.left h.gap h.time)); owner = transfer_at k; transfer = headed (next_taken h) b }

  abbrev pub Segments : Transfer → Head → List ℕ → Type 0
  Segments x h b = (segment_of k c x ≡ (if next_due h then some (next_given h b) else none)) × (next_due h ≡ true → Tells (next_taken h) b (headed (next_taken h) b))

  stage_segments : (p : List ℕ) (n : ℕ) (s : Stage) → Segments (transmits_at p n s) (head_of (transfer_parts (transmits_at p n s))) (bytes_of (transfer_parts (transmits_at p n s)))
  unfolding segment_of next_of next_due next_taken headed gives
  stage_segments p n opens = (refl, λ e. absurd (true≢false (sym e)))
  stage_segments p n (awaits run) = (refl, λ e. absurd (true≢false (sym e)))
  stage_segments p n (flies l g) = (refl, λ e. absurd (true≢false (sym e)))
  stage_segments p n (sends l g w) = (refl, λ e. refl)

  parts_segment : (x : Transfer) → Segments x (head_of (transfer_parts x)) (bytes_of (transfer_parts x))
  unfolding segment_of next_due next_taken headed
  parts_segment idle = (refl, λ e. absurd (true≢false (sym e)))
  parts_segment refuses = (refl, λ e. absurd (true≢false (sym e)))
  parts_segment (receives r) = (refl, λ e. absurd (true≢false (sym e)))
  parts_segment (transmits t) =
      let same : ◌≡◌ {A = Transmission} (record { payload = t.payload; taken = t.taken; stage = t.stage }) t = refl in
      subst (λ y. Segments (transmits y) (head_of (transfer_parts (transmits y))) (bytes_of (transfer_parts (transmits y)))) same (stage_segments t.payload t.taken t.stage)

  pub segment_told : (h : Head) (b : List ℕ) (x : Transfer) → Tells h b x → Segments x h b
  segment_told h b x e = told (Segments x) x (parts_segment x) h b e

-- ---- what code gives

module _ (h : Head) where
  abbrev idle_head : Head
  idle_head = record { kind = 0; n = 0; time = 0; left = 0; gap = 0; waits = false }

  abbrev quiet : Head
  quiet = record { kind = h.kind; n = h.n; time = h.time; left = h.left; gap = h.gap; waits = false }

  pub overflows : h.kind ≡ 1 → 2 ≡ flow_status h
  unfolding flow_status
  overflows e = sym (ap (λ (q : Bool). if q then 2 else 0) (eq-eqb h.kind 1 e))

  pub goes_on : (h.kind ≡ 1 → ⊥) → 0 ≡ flow_status h
  unfolding flow_status
  goes_on e = sym (ap (λ (q : Bool). if q then 2 else 0) (ne_eqb h.kind 1 e))

  pub refused : h.kind ≡ 1 → idle_head ≡ flow_taken h
  unfolding flow_taken
  refused e = sym (ap (λ (q : Bool). if q then idle_head else quiet) (eq-eqb h.kind 1 e))

  pub quieted : (h.kind ≡ 1 → ⊥) → quiet ≡ flow_taken h
  unfolding flow_taken
  quieted e = sym (ap (λ (q : Bool). if q then idle_head else quiet) (ne_eqb h.kind 1 e))

  -- a frame is due only before all of the payload was taken
  pub due_kind : next_due h ≡ true → h.kind ≡ 6
  unfolding next_due
  due_kind e = eqb→eq h.kind 6 (left (eqb h.kind 6) (eqb h.time 0) (true_T _ e))

  pub due_n : (b : List ℕ) → Held h b → next_due h ≡ true → h.n < length b
  unfolding transfer_fits
  due_n b t e =
      let u : T (kind_fits 6 h.n h.time h.left h.gap h.waits b) = subst (λ (k : ℕ). T (kind_fits k h.n h.time h.left h.gap h.waits b)) (due_kind e) t in
      ltb→lt h.n (length b) (search (left, right) depth 9)

-- some conversation, whatever a place holds
abbrev pub some_talk : Talk
some_talk = record { wide = false; pattern = 0; flow = 0; transfer = idle }

module _ (t : List ℕ) (l : length t ≡ talk_size) where
  pub free_gave : (f : Talk → Option Given) (d : List ℕ) → get_or t 0 0 ≡ 0 → Gave f 0 d t t
  free_gave f d e = λ flags v. free_gives f flags t l v d e

  -- the payload of a taken place, lent
  module _ (on : get_or t 0 0 ≡ 0 → ⊥) (q : Placed t) where
    pub placed_payload : T (payload508.valid (drop payload_on t))
    placed_payload = (taken q.flags t l q.valid on).payload

    pub lent_payload : (size : ℕ) → size ≡ length (payload_at t) → take (bytes_on + size - bytes_on) (drop bytes_on t) ≡ payload_at t
    lent_payload size e =
        let same : bytes_on + size - bytes_on ≡ length (payload_at t) = omega arith in
        ap (λ (n : ℕ). take n (drop bytes_on t)) same ∙ payload_is t l placed_payload

    pub due_room : (h : Head) → h ≡ head_at t → next_due h ≡ true → (h.n < length (payload_at t)) × (length (payload_at t) ≤ most_payload)
    due_room h at e = (
      due_n h (payload_at t) (subst (λ y. Held y (payload_at t)) (sym at) (taken q.flags t l q.valid on).fits) e,
      payload_short t l placed_payload,
    )

  module _ (on : get_or t 0 0 ≡ 0 → ⊥) (h : Head) (at : h ≡ head_at t) where
    tells_at : (flags : ℕ) (v : T ((slot (talk_cell flags)).valid t)) → Tells h (payload_at t) (taken flags t l v on).talk.transfer
    tells_at flags v = subst (λ y. Tells y (payload_at t) (taken flags t l v on).talk.transfer) (sym at) (taken flags t l v on).tells

    module _ (k : ℕ) where
      abbrev answering : Talk → Option Given
      answering c = answer_of k c c.transfer

      pub answers_none : (d : List ℕ) → flow_waits h ≡ false → Gave answering 0 d t t
      answers_none d e =
          λ flags v.
          let p : Taken flags t = taken flags t l v on in
          let a = answer_told k p.talk h (payload_at t) p.talk.transfer (tells_at flags v) in
          gives_none answering flags t l v p d (a.0 ∙ ap (λ (q : Bool). if q then some (flow_given k p.talk h (payload_at t)) else none) e)

      pub answers_one : (n : ℕ) (d u : List ℕ) → flow_waits h ≡ true → ((c : Talk) → take n d ≡ carried (flow_frame c (flow_status h))) → u ≡ settled (flow_taken h) t → Gave answering n d t u
      answers_one n d u e ed eu =
          λ flags v.
          let p : Taken flags t = taken flags t l v on in
          let a = answer_told k p.talk h (payload_at t) p.talk.transfer (tells_at flags v) in
          gives_one answering flags t l v p (flow_given k p.talk h (payload_at t)) n d u (a.0 ∙ ap (λ (q : Bool). if q then some (flow_given k p.talk h (payload_at t)) else none) e) (ed p.talk)
          (eu ∙ p.settles (flow_taken h) _ (a.1 e))

      abbrev segmenting : Talk → Option Given
      segmenting c = segment_of k c c.transfer

      pub segments_none : (d : List ℕ) → next_due h ≡ false → Gave segmenting 0 d t t
      segments_none d e =
          λ flags v.
          let p : Taken flags t = taken flags t l v on in
          let a = segment_told k p.talk h (payload_at t) p.talk.transfer (tells_at flags v) in
          gives_none segmenting flags t l v p d (a.0 ∙ ap (λ (q : Bool). if q then some (next_given k p.talk h (payload_at t)) else none) e)

      pub segments_one : (n : ℕ) (d u b : List ℕ) → next_due h ≡ true → b ≡ payload_at t → ((c : Talk) (s : Stage) → take n d ≡ carried (next_frame c (taken_of b h.n s))) → u ≡ with_head (next_taken h) t
          → Gave segmenting n d t u
      segments_one n d u b e eb ed eu =
          λ flags v.
          let p : Taken flags t = taken flags t l v on in
          let a = segment_told k p.talk h (payload_at t) p.talk.transfer (tells_at flags v) in
          let s : Stage = sends h.left h.gap h.time in
          gives_one segmenting flags t l v p (next_given k p.talk h (payload_at t)) n d u (a.0 ∙ ap (λ (q : Bool). if q then some (next_given k p.talk h (payload_at t)) else none) e)
          (ed p.talk s ∙ ap (λ (y : List ℕ). carried (next_frame p.talk (taken_of y h.n s))) eb)
          (eu ∙ p.heads (next_taken h) _ (a.1 e))
