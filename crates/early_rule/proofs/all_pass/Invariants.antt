use mathlib.Core.Path.{◌≡◌}
use Prim.Native.Nat.{◌-◌, ◌≤◌}
use Rattle.machine.specs.Limits.{most_places}
use Rattle.early_rule.specs.Words.{free_at, able_at, some_below}
use Rattle.early_rule.proofs.all_pass.Given as goal

abbrev pub invariant-loop-f : goal.invariant-loop-f
invariant-loop-f l = (l.f ≤ most_places) × (l.free ≡ some_below l.f (free_at l.heads l.ps)) × (l.able ≡ some_below l.f (able_at l.heads l.ms l.ps))

abbrev pub decreases-loop-f : goal.decreases-loop-f
decreases-loop-f l = most_places - l.f
