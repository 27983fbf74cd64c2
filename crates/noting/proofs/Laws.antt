-- A list of codes that is looked through, and what an answer gives where its code and its number were found. Assumes nothing.
use Rattle.std.specs.List.{list_any}
use mathlib.Core.Path.{◌≡◌, refl, sym, ap₂, ◌∙◌}
use mathlib.Core.Bool.{Bool, true, false, ◌||◌}
use mathlib.Core.List.{List, [], ◌∷◌}
use Prim.Native.Nat.{ℕ}
use lib.Dec.{eqb}
use borrow.Author.Tests.{eq-eqb, ne_eqb, eqb-true, eqb-false}
use Rattle.codec.specs.Plain.{member}
use Rattle.layout.specs.Promise.{Result, gives}

eqb_turned : (a b : ℕ) → eqb a b ≡ eqb b a
eqb_turned a b = by (eqb a b) refl
  where
    by : (t : Bool) → eqb a b ≡ t → eqb a b ≡ eqb b a
    by true e = let same : a ≡ b = eqb-true a b e in e ∙ sym (eq-eqb b a (sym same))
    by false e = e ∙ sym (ne_eqb b a (λ z. eqb-false a b e (sym z)))

pub any_member : (n : ℕ) (xs : List ℕ) → list_any (λ x. eqb x n) xs ≡ member n xs
unfolding member
any_member n [] = refl
any_member n (x ∷ xs) = ap₂ ◌||◌ (eqb_turned x n) (any_member n xs)

-- a call that answers by its code alone, and one that gives a number too
pub by_code : {code told n : ℕ} {bytes memory : List ℕ} {given : Result} → code ≡ told → gives told n bytes memory ≡ given → gives code n bytes memory ≡ given
by_code {n = n} {bytes = bytes} {memory = memory} e g = (λ i. gives (e i) n bytes memory) ∙ g

pub by_answer : {code value told number : ℕ} {bytes memory : List ℕ} {given : Result} → code ≡ told → value ≡ number → gives told number bytes memory ≡ given → gives code value bytes memory ≡ given
by_answer {bytes = bytes} {memory = memory} e v g = (λ i. gives (e i) (v i) bytes memory) ∙ g
