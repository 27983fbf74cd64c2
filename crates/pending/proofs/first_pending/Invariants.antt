use Prim.Native.Nat.{ℕ, ◌≤◌, ◌<◌, ◌-◌, ◌+◌}
use mathlib.Core.Path.{◌≡◌}
use lib.ListN.{get_or}
use Rattle.machine.specs.Limits.{most_places}
use Rattle.layout.specs.Sizes.{pending_in}
use Rattle.pending.proofs.first_pending.Given as goal

abbrev pub invariant-loop-i : goal.invariant-loop-i
invariant-loop-i l = (l.i ≤ most_places) × ((k : ℕ) → k < l.i → get_or l.part (pending_in + k) 0 ≡ 1 → ⊥)

abbrev pub decreases-loop-i : goal.decreases-loop-i
decreases-loop-i l = most_places - l.i
