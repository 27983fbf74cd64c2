use mathlib.Core.Path.{◌≡◌}
use Prim.Native.Nat.{◌+◌, ◌*◌, ◌-◌, ◌≤◌}
use lib.ListN.{length, take, drop}
use Rattle.machine.specs.Limits.{most_places, most_data}
use Rattle.filterwalk.specs.Columns.{listed}
use Rattle.verdict.proofs.rows.Given as goal

abbrev pub invariant-loop-f : goal.invariant-loop-f
invariant-loop-f l = (l.f ≤ most_places) × (length l.out ≡ most_places) × (take l.f l.out ≡ listed l.f (λ k. take most_data (drop (l.at + k * most_data) l.mem)))

abbrev pub decreases-loop-f : goal.decreases-loop-f
decreases-loop-f l = most_places - l.f
