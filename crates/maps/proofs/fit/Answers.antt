-- `maps::fit` meets its contract: with no filter of the map both maps are zeros. Assumes nothing.
use mathlib.Core.Path.{refl, sym, ◌∙◌}
use mathlib.Core.Bool.{true, false}
use mathlib.Core.List.{List}
use Prim.Native.Nat.{ℕ}
use Rattle.layout.specs.Memory.{filters}
use Rattle.maps.proofs.Made.{none_held}
use Rattle.maps.proofs.Parts.{none_fit, fit_is}
use Rattle.maps.proofs.fit.Goals as goal

pub returns-then-none_mapped : goal.returns-then-none_mapped
returns-then-none_mapped c =
    let m : List ℕ = c.args.part.now in
    let z = sym c.if-none_mapped.true ∙ c.none_mapped.ensures in
    λ flags. none_fit ((filters flags).get m) c.args.map.now c.all_zero.result c.requires.1 (none_held m c.requires.0 false z flags) (none_held m c.requires.0 true z flags) c.all_zero.ensures

pub returns : goal.returns
returns c =
    λ flags. fit_is ((filters flags).get c.args.part.now) c.args.map.now c.fits.result c.fits-2.result _ _ c.requires.1 refl refl (c.fits.ensures flags) (c.fits-2.ensures flags)
