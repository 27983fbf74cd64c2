-- The numbers of the memory of the whole box, in the order in which code names them. Assumes nothing.
use Rattle.std.specs.Prelude.{ℕ, List, [], ◌∷◌}
use Rattle.whole.specs.Device.{channels}
use Rattle.memory.specs.Sizes.{isos_at, box_size}

abbrev pub named : List ℕ
named = channels ∷ isos_at ∷ box_size ∷ []
