use mathlib.Core.Path.{◌≡◌}
use Prim.Native.Nat.{◌-◌, ◌≤◌}
use lib.ListN.{length, take}
use Rattle.machine.specs.Limits.{most_places}
use Rattle.filterwalk.specs.Columns.{listed}
use Rattle.early_rule.specs.Words.{size_at}
use Rattle.early_rule.proofs.Bars.{bar_mask, bar_pattern}
use Rattle.early_rule.proofs.passing.Given as goal

abbrev pub invariant-loop-g : goal.invariant-loop-g
invariant-loop-g l =
    (l.g ≤ most_places) × (length l.bm ≡ most_places) × (length l.bp ≡ most_places) × (l.long ≡ size_at l.heads l.f) × (take l.g l.bm ≡ listed l.g (bar_mask l.heads l.ms l.ps l.f)) × (take l.g l.bp ≡ listed l.g (bar_pattern l.heads l.ms l.ps l.f))

abbrev pub decreases-loop-g : goal.decreases-loop-g
decreases-loop-g l = most_places - l.g
