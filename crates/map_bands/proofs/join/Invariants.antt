use mathlib.Core.Path.{◌≡◌}
use Prim.Native.Nat.{◌-◌, ◌*◌, ◌≤◌}
use lib.ListN.{length}
use Rattle.map_rule.specs.Map.{map_size}
use Rattle.map_bands.specs.Bands.{band_size, joined}
use Rattle.map_bands.proofs.Spread.{partly}
use Rattle.map_bands.proofs.join.Given as goal

abbrev pub invariant-loop-h : goal.invariant-loop-h
invariant-loop-h l = (l.h ≤ 8) × (length l.map ≡ map_size) × (l.map ≡ partly (l.h * band_size) (joined l.initial.map l.hm l.hp l.lm l.lp) l.initial.map)

abbrev pub decreases-loop-h : goal.decreases-loop-h
decreases-loop-h l = 8 - l.h
