-- `iso_talks::owned` meets its contract. Assumes nothing.
use Rattle.iso_talks.proofs.Links.{owned_is}
use lib.ListN.{get_or}
use lib.Dec.{eqb, leb}
use Prim.Native.Nat.{ℕ}
use mathlib.Core.List.{List}
use mathlib.Core.Bool.{◌&&◌, ◌||◌}
use mathlib.Core.Path.{◌∙◌}
use Rattle.iso_talks.proofs.owned.Goals as goal

pub returns : goal.returns
returns c = let f : List ℕ = c.args.f.now in
    let w : ℕ = get_or f 1 0 in
    λ flags a b p q. (λ j. eqb (get_or f 0 0) 0 || (leb w 1 || ((eqb w 2 && p j) || (eqb w 3 && q j)))) ∙ owned_is flags f a b
