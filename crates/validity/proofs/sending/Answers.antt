-- `validity::sending` meets its contract. Assumes nothing.
use Rattle.validity.proofs.Region.{sending_flat}
use Rattle.ten_places.specs.Place.{places_size}
use mathlib.Core.Bool.{Bool, ◌&&◌}
use mathlib.Core.Path.{ap₂, ◌∙◌}
use borrow.Author.Rules.{rules}
use Rattle.validity.proofs.sending.Goals as goal

pub valid-requires : goal.valid-requires
unfolding places_size
valid-requires c = search rules

pub returns : goal.returns
returns c = ap₂ (λ (x y : Bool). x && y) c.valid.ensures (ap₂ (λ (x y : Bool). x && y) c.store.ensures c.store-2.ensures)
    ∙ sending_flat c.args.flags c.args.s.now c.requires
