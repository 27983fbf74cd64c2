use mathlib.Core.Path.{◌≡◌}
use Prim.Native.Nat.{◌-◌, ◌≤◌}
use lib.ListN.{length, take}
use Rattle.machine.specs.Limits.{most_places}
use Rattle.filterwalk.specs.Columns.{listed}
use Rattle.early.specs.Cubes.{mask_at, pattern_at}
use Rattle.early.proofs.answer.Given as goal

abbrev pub invariant-loop-f : goal.invariant-loop-f
invariant-loop-f l =
    (l.f ≤ most_places) × (length l.ms ≡ most_places) × (length l.ps ≡ most_places) × (take l.f l.ms ≡ listed l.f (mask_at l.part l.wide l.id)) × (take l.f l.ps ≡ listed l.f (pattern_at l.part l.wide l.id))

abbrev pub decreases-loop-f : goal.decreases-loop-f
decreases-loop-f l = most_places - l.f
