-- `maps::chosen` meets its contract, which is its code. Assumes nothing.
use mathlib.Core.Path.{ap}
use mathlib.Core.Bool.{Bool, ◌&&◌, beq}
use mathlib.Core.List.{List}
use Prim.Native.Nat.{ℕ, ◌+◌}
use lib.Dec.{eqb}
use lib.ListN.{get_or}
use Rattle.maps.specs.Chosen.{pattern_from, chosen_at}
use Rattle.maps.proofs.chosen.Goals as goal

pub returns : goal.returns
unfolding chosen_at
returns c =
    let a = c.args in
    let m : List ℕ = a.part.now in
    ap (λ (b : Bool). b && beq (eqb (get_or m a.f 0) 2) a.block && (eqb 0 (get_or m (pattern_from a.f) 0) && eqb 0 (get_or m (pattern_from a.f + 1) 0)))
    c.mapped.ensures
