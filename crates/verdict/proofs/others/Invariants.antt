use Prim.Native.Nat.{◌-◌, ◌≤◌}
use Rattle.machine.specs.Limits.{most_places}
use Rattle.verdict.proofs.Kept.{Kept}
use Rattle.verdict.proofs.others.Given as goal

abbrev pub invariant-loop-f : goal.invariant-loop-f
invariant-loop-f l = (l.f ≤ most_places) × Kept l.part l.heads l.f

abbrev pub decreases-loop-f : goal.decreases-loop-f
decreases-loop-f l = most_places - l.f
