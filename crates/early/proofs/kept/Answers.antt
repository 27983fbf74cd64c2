-- `early::kept` meets its contract. Assumes nothing.
use mathlib.Core.Path.{ap₂}
use mathlib.Core.Bool.{not, ◌&&◌, beq}
use Prim.Native.Nat.{ℕ, ◌+◌}
use lib.Dec.{eqb}
use lib.Bits.{bit_and}
use lib.ListN.{get_or}
use Rattle.layout.specs.Sizes.{widths_in}
use Rattle.early.specs.Cubes.{kept_at}
use Rattle.early.proofs.kept.Goals as goal

pub returns : goal.returns
unfolding kept_at
returns c =
    let a = c.args in
    ap₂ (λ (m p : ℕ). not (eqb (get_or a.part.now a.f 0) 0) && beq a.wide (eqb 1 (get_or a.part.now (widths_in + a.f) 0)) && eqb (bit_and a.id m) p)
    c.id_at-mask.ensures c.id_at-pattern.ensures
