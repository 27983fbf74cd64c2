-- `maps::fits` meets its contract. Assumes nothing.
use mathlib.Core.Path.{ap, ◌∙◌}
use Rattle.derived.specs.Derived.{same_bytes}
use Rattle.maps.proofs.fits.Goals as goal

pub returns : goal.returns
returns c =
    let a = c.args in
    λ flags. c.same.ensures ∙ ap (same_bytes a.map.now) (c.make.ensures flags)
