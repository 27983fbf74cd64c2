-- `maps::write` meets its contract. Assumes nothing.
use mathlib.Core.Path.{refl}
use Rattle.layout.specs.Memory.{filters}
use Rattle.map_rule.specs.Map.{map_size}
use Rattle.maps.proofs.Parts.{remade}
use Rattle.maps.proofs.write.Goals as goal

pub returns : goal.returns
returns c =
    λ flags. remade ((filters flags).get c.args.part.now) c.args.map.now _ _ map_size map_size c.requires.1 refl refl (c.make.ensures flags) (c.make-2.ensures flags)
