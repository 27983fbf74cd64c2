use mathlib.Core.Path.{◌≡◌}
use mathlib.Core.Bool.{not}
use Prim.Native.Nat.{◌-◌, ◌≤◌}
use lib.Dec.{eqb}
use lib.ListN.{get_or}
use Rattle.codec.specs.Plain.{all_below}
use Rattle.machine.specs.Limits.{most_places}
use Rattle.filterwalk.proofs.none_of.Given as goal

abbrev pub invariant-loop-f : goal.invariant-loop-f
invariant-loop-f l = (l.f ≤ most_places) × (l.none ≡ all_below l.f (λ k. not (eqb (get_or l.heads k 0) l.kind)))

abbrev pub decreases-loop-f : goal.decreases-loop-f
decreases-loop-f l = most_places - l.f
