use mathlib.Core.Path.{◌≡◌}
use Prim.Native.Nat.{◌-◌, ◌≤◌}
use lib.ListN.{length, take}
use Rattle.machine.specs.Limits.{most_places}
use Rattle.layout.specs.Memory.{filters}
use Rattle.map_rule.specs.Map.{map_size, map_bytes}
use Rattle.maps.proofs.make.Given as goal

abbrev pub invariant-loop-f : goal.invariant-loop-f
invariant-loop-f l = (l.f ≤ most_places) × (length l.map ≡ map_size) × (l.map ≡ map_bytes l.block (take l.f ((filters 0).get l.part)))

abbrev pub decreases-loop-f : goal.decreases-loop-f
decreases-loop-f l = most_places - l.f
