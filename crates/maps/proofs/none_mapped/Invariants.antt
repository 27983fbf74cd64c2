use mathlib.Core.Path.{◌≡◌}
use mathlib.Core.Bool.{not}
use Prim.Native.Nat.{◌-◌, ◌≤◌}
use Rattle.codec.specs.Plain.{all_below}
use Rattle.machine.specs.Limits.{most_places}
use Rattle.maps.specs.Chosen.{mapped_at}
use Rattle.maps.proofs.none_mapped.Given as goal

abbrev pub invariant-loop-f : goal.invariant-loop-f
invariant-loop-f l = (l.f ≤ most_places) × (l.none ≡ all_below l.f (λ k. not (mapped_at l.part k)))

abbrev pub decreases-loop-f : goal.decreases-loop-f
decreases-loop-f l = most_places - l.f
