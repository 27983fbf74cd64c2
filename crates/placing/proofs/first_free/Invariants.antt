use mathlib.Core.Path.{◌≡◌}
use Prim.Native.Nat.{ℕ, ◌+◌, ◌-◌, ◌≤◌}
use lib.ListN.{drop}
use Rattle.machine.specs.Filter.{free}
use Rattle.machine.specs.Limits.{most_places}
use Rattle.layout.specs.Memory.{periodics}
use Rattle.placing.proofs.first_free.Given as goal

abbrev pub invariant-loop-i : goal.invariant-loop-i
invariant-loop-i l = (l.i ≤ most_places) × ((flags : ℕ) → free ((periodics flags).get l.part) ≡ l.i + free (drop l.i ((periodics flags).get l.part)))

abbrev pub decreases-loop-i : goal.decreases-loop-i
decreases-loop-i l = most_places - l.i
