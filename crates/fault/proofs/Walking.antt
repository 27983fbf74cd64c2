-- What is known between two events of a recording that is looked through, and what is said at its end or at a bad event. Assumes nothing.
use Prim.Native.Nat.{ℕ, zero, suc, ◌+◌, ◌-◌, ◌≤◌, ◌<◌}
use mathlib.Core.List.{List}
use mathlib.Core.Option.{none, some}
use mathlib.Core.Path.{◌≡◌, refl, sym, ap, ◌∙◌}
use native.Mathlib.Omega.{arith}
use borrow.Author.Tests.{le-leb, lt-leb, le-ltb, lt-ltb}
use lib.ListN.{length}
use Rattle.machine.specs.Step as machine
use Rattle.edition.specs.Edition.{start_of}
use Rattle.edition.proofs.Marked.{start_inside}
use Rattle.events.specs.declared.Event.{Event}
use Rattle.std.specs.Prelude.{Some, None}
use Rattle.events.specs.Events.{read_event}
use Rattle.events.specs.Found.{Found, event_of, found_of, ReadsEvent}
use Rattle.events.proofs.Ending.{one_at_least, event_ends}
use Rattle.fault.specs.declared.Spot.{Spot}
use Rattle.fault.specs.Fault.{fault, nothing, met, event_fault, fault_from, fault_in}

-- n events were read, up to `at`
pub record Walking (s : List ℕ) (at n : ℕ) : Type 0 where
  pub inside : at ≤ length s
  pub few : n ≤ at
  pub turns : ℕ
  pub enough : length s ≤ at + turns
  pub right : fault_from turns s n at ≡ fault_from (length s) s 0 (start_of s)

pub begun : (s : List ℕ) {at : ℕ} → at ≡ start_of s → Walking s at 0
begun s {at} e =
    record {
      inside = omega (arith, start_inside s, e);
      few = omega arith;
      turns = length s;
      enough = omega arith;
      right = ap (λ (k : ℕ). fault_from (length s) s 0 k) e;
    }

-- too long, or not
pub too_long : (s : List ℕ) → 32768 < length s → fault 6 0 0 32768 ≡ fault_in s
unfolding fault_in
too_long s h = rw (lt-ltb 32768 (length s) h)

pub not_long : (s : List ℕ) → length s ≤ 32768 → fault_in s ≡ fault_from (length s) s 0 (start_of s)
unfolding fault_in
not_long s h = rw (le-ltb 32768 (length s) h)

module _ (s : List ℕ) (at n : ℕ) where
  from_end : (turns : ℕ) → length s ≤ at → fault_from turns s n at ≡ nothing
  unfolding fault_from
  from_end zero h = refl
  from_end (suc turns) h = rw (le-leb (length s) at h)

  from_on : (turns : ℕ) → at < length s → length s ≤ at + turns → fault_from turns s n at ≡ met (read_event s at) s n at (λ next. fault_from (turns - 1) s (n + 1) next)
  unfolding fault_from
  from_on turns h enough =
      let one : turns ≡ suc (turns - 1) = omega arith in
      ap (λ (t : ℕ). fault_from t s n at) one ∙ rw (lt-leb (length s) at h)

module _ {s : List ℕ} {at n : ℕ} (p : Walking s at n) where
  -- the end
  pub ended : length s ≤ 32768 → length s ≤ at → nothing ≡ fault_in s
  ended l h = sym (from_end s at n p.turns h) ∙ p.right ∙ sym (not_long s l)

  module _ (h : at < length s) (r : Found) (a : ReadsEvent s at r) where
    -- a bad event
    pub stopped : length s ≤ 32768 → r ≡ None → (x : Spot) → x ≡ event_fault s at → fault x.reason (n + 1) at x.at ≡ fault_in s
    unfolding met
    stopped l q x e =
        let bad : read_event s at ≡ none = sym a.is ∙ ap (λ (f : Found). found_of s f) q in
        ap (λ (y : Spot). fault y.reason (n + 1) at y.at) e ∙ sym (from_on s at n p.turns h p.enough ∙ rw bad) ∙ p.right ∙ sym (not_long s l)

    -- a good one
    pub goes_on : {e : Event} {next : ℕ} → r ≡ Some (e, next) → Walking s next (n + 1)
    unfolding met
    goes_on {e} {next} q =
        let good : read_event s at ≡ some (event_of s e, next) = sym a.is ∙ ap (λ (f : Found). found_of s f) q in
        let ends = event_ends s at (event_of s e) next good in
        let one = one_at_least (event_of s e) in
        record {
          inside = ends.1;
          few = omega (arith, ends.0, p.few);
          turns = p.turns - 1;
          enough = omega (arith, ends.0, p.enough);
          right = sym (from_on s at n p.turns h p.enough ∙ rw good) ∙ p.right;
        }

    pub further : {e : Event} {next : ℕ} → r ≡ Some (e, next) → (at < next) × (next ≤ length s)
    further {e} {next} q =
        let good : read_event s at ≡ some (event_of s e, next) = sym a.is ∙ ap (λ (f : Found). found_of s f) q in
        let ends = event_ends s at (event_of s e) next good in
        (omega (arith, ends.0, one_at_least (event_of s e)), ends.1)
