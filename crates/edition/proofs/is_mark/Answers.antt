-- `edition::is_mark` meets its contract. Assumes nothing.
use mathlib.Core.Bool.{Bool, ◌&&◌}
use mathlib.Core.Path.{ap}
use lib.Dec.{eqb}
use Rattle.edition.specs.Edition.{mark_at}
use Rattle.edition.proofs.is_mark.Goals as goal

pub returns : goal.returns
unfolding mark_at
returns c = ap (λ (b : Bool). eqb c.args.at 0 && b) c.is_marked.ensures
