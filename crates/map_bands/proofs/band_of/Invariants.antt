use mathlib.Core.Path.{◌≡◌}
use Prim.Native.Nat.{◌-◌, ◌≤◌}
use lib.ListN.{length, take}
use Rattle.map_rule.specs.Map.{counted}
use Rattle.map_bands.specs.Bands.{band_size, band_at}
use Rattle.map_bands.proofs.band_of.Given as goal

abbrev pub invariant-loop-l : goal.invariant-loop-l
invariant-loop-l l = (l.l ≤ band_size) × (length l.out ≡ band_size) × (take l.l l.out ≡ counted l.l (band_at l.mask l.pattern))

abbrev pub decreases-loop-l : goal.decreases-loop-l
decreases-loop-l l = band_size - l.l
