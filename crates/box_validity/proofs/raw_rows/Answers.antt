-- `box_validity::raw_rows` meets its contract. The invariant: the regions passed are valid. Assumes nothing.
use Rattle.layout.proofs.Sizes.{region_size_law}
use Rattle.stored_records.proofs.Stores.{turn}
use Rattle.layout.specs.Memory.{region}
use Rattle.layout.specs.Sizes.{number_size, region_size}
use Rattle.machine.specs.Limits.{lines}
use Rattle.codec.specs.Code.{valid_all}
use lib.ListN.{drop}
use native.Mathlib.Omega.{arith}
use Prim.Native.Nat.{ℕ, ◌+◌, ◌*◌, ◌-◌}
use mathlib.Core.Bool.{Bool, ◌&&◌}
use mathlib.Core.Path.{◌≡◌, refl, ap, ◌∙◌}
use Rattle.box_validity.proofs.raw_rows.Goals as goal

pub loop-i-init : goal.loop-i-init
loop-i-init c = (omega arith, refl)

pub loop-i-preserved : goal.loop-i-preserved
loop-i-preserved c = let a : ℕ = number_size + c.loop-i.i * region_size in (
  omega arith,
  ap (λ (b : Bool). c.loop-i.good && b) c.region_valid-good.ensures
      ∙ turn region region_size region_size_law number_size c.loop-i.i a (a + region_size - a) c.args.mem.now c.loop-i.good refl (omega arith) c.loop-i.invariant.1,
)

pub returns : goal.returns
returns c = let e : c.loop-i.i ≡ lines = omega arith in
    c.loop-i.invariant.1 ∙ ap (λ (k : ℕ). valid_all region k (drop number_size c.args.mem.now)) e
