-- What is sent next, by the first pending place: its periodic, or where there is none the oldest written record. Assumes nothing.
use Rattle.std.specs.Prelude.{if◌then◌else◌}
use mathlib.Core.Path.{◌≡◌, refl, sym, ap, ◌∙◌, subst}
use Prim.Native.Nat.{ℕ, zero, suc, ◌<◌, ◌≤◌}
use native.Mathlib.Nat.{not-suc-le-zero, le_of_suc-le-suc}
use native.Mathlib.Omega.{arith}
use mathlib.Core.Bool.{Bool, true, false}
use mathlib.Core.Option.{Option, none, some}
use mathlib.Core.List.{List, [], ◌∷◌}
use lib.ListN.{length, get_or, set}
use Rattle.machine.specs.Message.{Rec}
use Rattle.machine.specs.Filter.{Slots}
use Rattle.machine.specs.Channel.{Periodic, Next, next_written, behind, calm, next}
use Rattle.machine.specs.Limits.{most_places}
use Rattle.pending.specs.Pending.{is_pending, first_pending}

-- ---- found from the front: no place below i is pending, and i is, if it is a place

pub first_is : (ps : Slots Periodic) (i : ℕ) → i ≤ length ps → ((k : ℕ) → k < i → is_pending (get_or ps k none) ≡ false) → (i < length ps → is_pending (get_or ps i none) ≡ true) → i ≡ first_pending ps
unfolding first_pending
first_is [] zero h below here = refl
first_is [] (suc i) h below here = absurd (not-suc-le-zero h)
first_is (x ∷ ps) zero h below here = rw (here (omega arith))
first_is (x ∷ ps) (suc i) h below here =
    rw (below 0 (omega arith)) (ap suc (first_is ps i (le_of_suc-le-suc h) (λ k l. below (suc k) (omega arith)) (λ l. here (omega arith))))

-- ---- what the machine chooses

-- a place that has a pending periodic
pub record Waiting (ps : Slots Periodic) (i : ℕ) : Type 0 where
  pub one : Periodic
  pub there : get_or ps i none ≡ some one
  pub pending : one.pending ≡ true

-- that one goes in flight, and is no longer pending
abbrev pub sends : Slots Periodic → List Rec → ℕ → Periodic → Option Next
sends ps ws i p = some (record { chosen = p.message; periodics = set ps i (some (calm p)); written = ws })

-- the oldest written record goes in flight, if there is one
abbrev pub oldest : Slots Periodic → List Rec → Option Next
oldest ps [] = none
oldest ps (r ∷ ws) = some (record { chosen = r; periodics = ps; written = ws })

further : (x : Option Periodic) (ps : Slots Periodic) (i : ℕ) → Waiting ps i → Waiting (x ∷ ps) (suc i)
further x ps i w = record { one = w.one; there = w.there; pending = w.pending }

waits : (ps : Slots Periodic) → first_pending ps < length ps → Waiting ps (first_pending ps)
unfolding first_pending is_pending
waits [] h = absurd (not-suc-le-zero h)
waits (none ∷ ps) h = further none ps (first_pending ps) (waits ps (le_of_suc-le-suc h))
waits (some q ∷ ps) h = go q.pending refl h (waits ps)
  where
    go : (b : Bool) → q.pending ≡ b → (if b then 0 else suc (first_pending ps)) < suc (length ps) → (first_pending ps < length ps → Waiting ps (first_pending ps)) → Waiting (some q ∷ ps) (if b then 0 else suc (first_pending ps))
    go true e h w = record { one = q; there = refl; pending = e }
    go false e h w = further (some q) ps (first_pending ps) (w (le_of_suc-le-suc h))

chooses : (ps : Slots Periodic) (ws : List Rec) (p : Periodic) → get_or ps (first_pending ps) none ≡ some p → next ps ws ≡ sends ps ws (first_pending ps) p
unfolding first_pending is_pending next behind
chooses [] ws p e = let z : ◌≡◌ {A = ℕ} 0 1 = cc in absurd (omega arith)
chooses (none ∷ ps) ws p e = ap (behind none) (chooses ps ws p e)
chooses (some q ∷ ps) ws p e = go q.pending e (chooses ps ws p)
  where
    go : (b : Bool) → get_or (some q ∷ ps) (if b then 0 else suc (first_pending ps)) none ≡ some p → (get_or ps (first_pending ps) none ≡ some p → next ps ws ≡ sends ps ws (first_pending ps) p)
        → (if b then some (record { chosen = q.message; periodics = some (calm q) ∷ ps; written = ws }) else behind (some q) (next ps ws)) ≡ sends (some q ∷ ps) ws (if b then 0 else suc (first_pending ps)) p
    go true e f = let s : q ≡ p = cc in ap (sends (some q ∷ ps) ws 0) s
    go false e f = ap (behind (some q)) (f e)

behind_oldest : (x : Option Periodic) (ps : Slots Periodic) (ws : List Rec) → behind x (oldest ps ws) ≡ oldest (x ∷ ps) ws
unfolding behind
behind_oldest x ps [] = refl
behind_oldest x ps (r ∷ ws) = refl

passes_all : (ps : Slots Periodic) (ws : List Rec) → length ps ≤ first_pending ps → next ps ws ≡ oldest ps ws
unfolding first_pending is_pending next next_written
passes_all [] [] h = refl
passes_all [] (r ∷ ws) h = refl
passes_all (none ∷ ps) ws h = ap (behind none) (passes_all ps ws (le_of_suc-le-suc h)) ∙ behind_oldest none ps ws
passes_all (some q ∷ ps) ws h = go q.pending h (passes_all ps ws)
  where
    go : (b : Bool) → suc (length ps) ≤ (if b then 0 else suc (first_pending ps)) → (length ps ≤ first_pending ps → next ps ws ≡ oldest ps ws)
        → (if b then some (record { chosen = q.message; periodics = some (calm q) ∷ ps; written = ws }) else behind (some q) (next ps ws)) ≡ oldest (some q ∷ ps) ws
    go true h f = absurd (not-suc-le-zero h)
    go false h f = ap (behind (some q)) (f (le_of_suc-le-suc h)) ∙ behind_oldest (some q) ps ws

-- ---- THE CHOICE, by the index that code found among the ten places

module _ (ps : Slots Periodic) (ten : length ps ≡ most_places) (i : ℕ) (e : i ≡ first_pending ps) where
  pub waiting : i < most_places → Waiting ps i
  waiting h = subst (Waiting ps) (sym e) (waits ps (omega arith))

  pub next_pending : (ws : List Rec) (p : Periodic) → get_or ps i none ≡ some p → next ps ws ≡ sends ps ws i p
  next_pending ws p g = chooses ps ws p (ap (λ (k : ℕ). get_or ps k none) (sym e) ∙ g) ∙ ap (λ (k : ℕ). sends ps ws k p) (sym e)

  pub next_oldest : (ws : List Rec) → most_places ≤ i → next ps ws ≡ oldest ps ws
  next_oldest ws h = passes_all ps ws (omega arith)
