-- A transfer some microseconds later, by its head. Assumes nothing.
use Rattle.std.specs.Prelude.{if◌then◌else◌}
use mathlib.Core.Path.{◌≡◌, refl, sym, ap, ◌∙◌, subst}
use Prim.Native.Nat.{ℕ, ◌+◌, ◌-◌, ◌<◌, ◌≤◌}
use native.Mathlib.Omega.{arith}
use mathlib.Core.Bool.{Bool, true, false, ◌||◌}
use mathlib.Core.List.{List}
use lib.Dec.{eqb, leb}
use borrow.Author.Tests.{eq-eqb, ne_eqb, le-leb, lt-leb}
use Rattle.iso.specs.Limits.{second}
use Rattle.iso.specs.Iso.{Reception, Stage, opens, awaits, flies, sends, Transmission, Transfer, idle, refuses, receives, transmits, staged, later_stage, later_transfer}
use Rattle.talk_head.specs.Headed.{Tells, remains}
use Rattle.talk_head.specs.declared.Head.{Head}
use Rattle.talk_head.proofs.Taken.{told, head_of, bytes_of}
use Rattle.iso_layout.specs.Region.{transfer_parts, transmits_at}
use Rattle.talk_times.specs.Timed.{timed, idle_head, ended}

-- the head some microseconds later
unfoldable pub later_head : ℕ → Head → Head
later_head us h = if eqb h.kind 2 || eqb h.kind 4 then ended h us else if eqb h.kind 6 then timed h (h.time - us) else h

module _ (us : ℕ) where
  abbrev Later : Transfer → Head → List ℕ → Type 0
  Later x h b = Tells (later_head us h) (remains (later_head us h) b) (later_transfer us x)

  stage_later : (p : List ℕ) (n : ℕ) (s : Stage) → Later (transmits_at p n s) (head_of (transfer_parts (transmits_at p n s))) (bytes_of (transfer_parts (transmits_at p n s)))
  unfolding later_head ended timed idle_head remains later_transfer later_stage staged
  stage_later p n opens = refl
  stage_later p n (flies l g) = refl
  stage_later p n (sends l g w) = refl
  stage_later p n (awaits run) = go (leb second (run + us))
    where
      go : (over : Bool)
          → Tells (if over then idle_head else timed (head_of (transfer_parts (transmits_at p n (awaits run)))) (run + us))
          (remains (if over then idle_head else timed (head_of (transfer_parts (transmits_at p n (awaits run)))) (run + us)) p)
          (if over then idle else staged (record { payload = p; taken = n; stage = awaits run }) (awaits (run + us)))
      go true = refl
      go false = refl

  parts_later : (x : Transfer) → Later x (head_of (transfer_parts x)) (bytes_of (transfer_parts x))
  unfolding later_head ended timed idle_head remains later_transfer
  parts_later idle = refl
  parts_later refuses = refl
  parts_later (transmits t) =
      let same : ◌≡◌ {A = Transmission} (record { payload = t.payload; taken = t.taken; stage = t.stage }) t = refl in
      subst (λ y. Later (transmits y) (head_of (transfer_parts (transmits y))) (bytes_of (transfer_parts (transmits y)))) same (stage_later t.payload t.taken t.stage)
  parts_later (receives r) = go (leb second (r.run + us))
    where
      go : (over : Bool)
          → Tells (if over then idle_head else timed (head_of (transfer_parts (receives r))) (r.run + us))
          (remains (if over then idle_head else timed (head_of (transfer_parts (receives r))) (r.run + us)) r.bytes)
          (if over then idle else receives (record { size = r.size; bytes = r.bytes; run = r.run + us; go_on = r.go_on }))
      go true = refl
      go false = refl

  pub later_told : (h : Head) (b : List ℕ) (x : Transfer) → Tells h b x → Later x h b
  later_told h b x e = told (Later x) x (parts_later x) h b e

  -- what is idle or refuses stays so
  stage_bare : (p : List ℕ) (n : ℕ) (s : Stage) → (head_of (transfer_parts (transmits_at p n s))).kind < 2 → later_transfer us (transmits_at p n s) ≡ transmits_at p n s
  stage_bare p n opens k = absurd (omega arith)
  stage_bare p n (awaits run) k = absurd (omega arith)
  stage_bare p n (flies l g) k = absurd (omega arith)
  stage_bare p n (sends l g w) k = absurd (omega arith)

  parts_bare : (x : Transfer) → (head_of (transfer_parts x)).kind < 2 → later_transfer us x ≡ x
  unfolding later_transfer
  parts_bare idle k = refl
  parts_bare refuses k = refl
  parts_bare (receives r) k = absurd (omega arith)
  parts_bare (transmits t) k = stage_bare t.payload t.taken t.stage k

  pub bare_stays : (h : Head) (b : List ℕ) (x : Transfer) → Tells h b x → h.kind < 2 → later_transfer us x ≡ x
  bare_stays h b x e = told (λ h b. h.kind < 2 → later_transfer us x ≡ x) x (parts_bare x) h b e

-- ---- which head code gives

module _ (us : ℕ) (h : Head) where
  pub runs_on : h.time + us < second → timed h (h.time + us) ≡ ended h us
  unfolding ended
  runs_on k = sym (ap (λ (q : Bool). if q then idle_head else timed h (h.time + us)) (lt-leb second (h.time + us) k))

  pub runs_out : second ≤ h.time + us → idle_head ≡ ended h us
  unfolding ended
  runs_out k = sym (ap (λ (q : Bool). if q then idle_head else timed h (h.time + us)) (le-leb second (h.time + us) k))

  pub waits_later : (eqb h.kind 2 || eqb h.kind 4) ≡ true → ended h us ≡ later_head us h
  unfolding later_head
  waits_later e = sym (ap (λ (q : Bool). if q then ended h us else if eqb h.kind 6 then timed h (h.time - us) else h) e)

  pub sends_later : (eqb h.kind 2 || eqb h.kind 4) ≡ false → h.kind ≡ 6 → timed h (h.time - us) ≡ later_head us h
  unfolding later_head
  sends_later e g = sym (ap (λ (q : Bool). if q then ended h us else if eqb h.kind 6 then timed h (h.time - us) else h) e ∙ ap (λ (q : Bool). if q then timed h (h.time - us) else h) (eq-eqb h.kind 6 g))

  pub else_later : (eqb h.kind 2 || eqb h.kind 4) ≡ false → (h.kind ≡ 6 → ⊥) → h ≡ later_head us h
  unfolding later_head
  else_later e g = sym (ap (λ (q : Bool). if q then ended h us else if eqb h.kind 6 then timed h (h.time - us) else h) e ∙ ap (λ (q : Bool). if q then timed h (h.time - us) else h) (ne_eqb h.kind 6 g))
