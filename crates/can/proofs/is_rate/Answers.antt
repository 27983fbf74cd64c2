-- `can::is_rate` meets its contract: membership, with the sides of each test swapped. Assumes nothing.
use Rattle.std.specs.List.{list_any}
use mathlib.Core.Path.{◌≡◌, refl, sym, ap₂, ◌∙◌}
use mathlib.Core.Bool.{Bool, true, false, ◌||◌}
use mathlib.Core.List.{List, [], ◌∷◌}
use Prim.Native.Nat.{ℕ}
use lib.Dec.{eqb}
use borrow.Author.Tests.{eqb-true, eq-eqb, eqb-false, ne_eqb}
use Rattle.codec.specs.Plain.{member}
use Rattle.can.proofs.is_rate.Goals as goal

swapped : (a b : ℕ) (t : Bool) → eqb a b ≡ t → eqb a b ≡ eqb b a
swapped a b true e = e ∙ sym (eq-eqb b a (sym (eqb-true a b e)))
swapped a b false e = e ∙ sym (ne_eqb b a (λ s. eqb-false a b e (sym s)))

found : (n : ℕ) (xs : List ℕ) → list_any (λ y. eqb y n) xs ≡ member n xs
unfolding member
found n [] = refl
found n (x ∷ xs) = ap₂ (λ (a b : Bool). a || b) (swapped x n (eqb x n) refl) (found n xs)

pub returns : goal.returns
returns c = c.contains.ensures.value ∙ found c.args.rate c.args.rates.now
