use Prim.Native.Nat.{ℕ, ◌-◌, ◌≤◌, ◌<◌}
use Rattle.machine.specs.Limits.{most_places}
use Rattle.early_rule.specs.Words.{Shut}
use Rattle.early_rule.proofs.some_passes.Given as goal

abbrev pub invariant-loop-f : goal.invariant-loop-f
invariant-loop-f l = (l.f ≤ most_places) × ((j : ℕ) → j < l.f → Shut l.heads l.ms l.ps j)

abbrev pub decreases-loop-f : goal.decreases-loop-f
decreases-loop-f l = most_places - l.f
