use Rattle.ten_places.specs.Place.{place_good}
use Rattle.machine.specs.Limits.{most_places}
use Rattle.codec.specs.Plain.{all_below}
use Prim.Native.Nat.{◌-◌, ◌≤◌}
use mathlib.Core.Path.{◌≡◌}
use Rattle.ten_places.proofs.valid.Given as goal

abbrev pub invariant-loop-i : goal.invariant-loop-i
invariant-loop-i l = (l.i ≤ most_places) × (l.good ≡ all_below l.i (λ k. place_good l.timed l.flags k l.s))

abbrev pub decreases-loop-i : goal.decreases-loop-i
decreases-loop-i l = most_places - l.i
