-- Whether any periodic is pending, by the first pending place. Assumes nothing.
use Rattle.std.specs.Prelude.{if◌then◌else◌}
use mathlib.Core.Path.{◌≡◌, refl}
use Prim.Native.Nat.{ℕ, suc, ◌<◌, ◌≤◌}
use native.Mathlib.Nat.{not-suc-le-zero, le_of_suc-le-suc}
use native.Mathlib.Omega.{arith}
use mathlib.Core.Bool.{Bool, true, false, ◌||◌}
use mathlib.Core.Option.{none, some}
use mathlib.Core.List.{[], ◌∷◌}
use lib.ListN.{length}
use Rattle.machine.specs.Filter.{Slots, any_slot}
use Rattle.machine.specs.Channel.{Periodic}
use Rattle.machine.specs.Limits.{most_places}
use Rattle.pending.specs.Pending.{is_pending, first_pending}

-- any is pending
abbrev pub any_pending : Slots Periodic → Bool
any_pending ps = any_slot (λ p. p.pending) ps

one_waits : (ps : Slots Periodic) → first_pending ps < length ps → any_pending ps ≡ true
unfolding any_slot first_pending is_pending
one_waits [] h = absurd (not-suc-le-zero h)
one_waits (none ∷ ps) h = one_waits ps (le_of_suc-le-suc h)
one_waits (some p ∷ ps) h = by p.pending h (one_waits ps)
  where
    by : (b : Bool) → (if b then 0 else suc (first_pending ps)) < suc (length ps) → (first_pending ps < length ps → any_pending ps ≡ true) → (b || any_pending ps) ≡ true
    by true h f = refl
    by false h f = f (le_of_suc-le-suc h)

none_waits : (ps : Slots Periodic) → length ps ≤ first_pending ps → any_pending ps ≡ false
unfolding any_slot first_pending is_pending
none_waits [] h = refl
none_waits (none ∷ ps) h = none_waits ps (le_of_suc-le-suc h)
none_waits (some p ∷ ps) h = by p.pending h (none_waits ps)
  where
    by : (b : Bool) → suc (length ps) ≤ (if b then 0 else suc (first_pending ps)) → (length ps ≤ first_pending ps → any_pending ps ≡ false) → (b || any_pending ps) ≡ false
    by true h f = absurd (not-suc-le-zero h)
    by false h f = f (le_of_suc-le-suc h)

-- by the index that code found among the ten places
module _ (ps : Slots Periodic) (ten : length ps ≡ most_places) {i : ℕ} (e : i ≡ first_pending ps) where
  pub any_pending_law : i < most_places → any_pending ps ≡ true
  any_pending_law h = one_waits ps (omega arith)

  pub none_pending : most_places ≤ i → any_pending ps ≡ false
  none_pending h = none_waits ps (omega arith)
