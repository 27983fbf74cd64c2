-- `box_validity::iso_rows` meets its contract. The invariant: the regions passed are valid. Assumes nothing.
use Rattle.iso_layout.proofs.Sizes.{iso_region_size_law}
use Rattle.stored_records.proofs.Stores.{turn}
use Rattle.iso_layout.specs.Region.{iso_region}
use Rattle.iso_layout.specs.Sizes.{iso_region_size}
use Rattle.memory.specs.Sizes.{isos_at}
use Rattle.machine.specs.Limits.{lines}
use Rattle.codec.specs.Code.{valid_all}
use lib.ListN.{drop}
use native.Mathlib.Omega.{arith}
use Prim.Native.Nat.{ℕ, ◌+◌, ◌*◌, ◌-◌}
use mathlib.Core.Bool.{Bool, ◌&&◌}
use mathlib.Core.Path.{◌≡◌, refl, ap, ◌∙◌}
use Rattle.box_validity.proofs.iso_rows.Goals as goal

pub loop-i-init : goal.loop-i-init
loop-i-init c = (omega arith, refl)

pub loop-i-preserved : goal.loop-i-preserved
loop-i-preserved c = let a : ℕ = isos_at + c.loop-i.i * iso_region_size in (
  omega arith,
  ap (λ (b : Bool). c.loop-i.good && b) c.iso_region-good.ensures
      ∙ turn iso_region iso_region_size iso_region_size_law isos_at c.loop-i.i a (a + iso_region_size - a) c.args.mem.now c.loop-i.good refl (omega arith) c.loop-i.invariant.1,
)

pub returns : goal.returns
returns c = let e : c.loop-i.i ≡ lines = omega arith in
    c.loop-i.invariant.1 ∙ ap (λ (k : ℕ). valid_all iso_region k (drop isos_at c.args.mem.now)) e
