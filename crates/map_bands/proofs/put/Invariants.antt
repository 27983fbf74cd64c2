use mathlib.Core.Path.{◌≡◌}
use Prim.Native.Nat.{◌-◌, ◌≤◌}
use lib.ListN.{length}
use Rattle.map_bands.specs.Bands.{band_size, or_bytes}
use Rattle.map_bands.proofs.Spread.{partly}
use Rattle.map_bands.proofs.put.Given as goal

abbrev pub invariant-loop-l : goal.invariant-loop-l
invariant-loop-l l = (l.l ≤ band_size) × (length l.d ≡ length l.initial.d) × (l.d ≡ partly l.l (or_bytes l.initial.d l.band) l.initial.d)

abbrev pub decreases-loop-l : goal.decreases-loop-l
decreases-loop-l l = band_size - l.l
