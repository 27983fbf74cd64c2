-- Two rows of bytes, compared by OR. Assumes nothing.
use mathlib.Core.Path.{◌≡◌, refl, sym, ap, ◌∙◌}
use Prim.Native.Nat.{ℕ, zero, suc, ◌+◌, ◌<◌}
use native.Mathlib.Nat.{not-suc-le-zero, le_of_suc-le-suc}
use native.Mathlib.Numerals.{add-one}
use native.Mathlib.Omega.{arith}
use mathlib.Core.Bool.{Bool, true, false, ◌&&◌}
use mathlib.Core.List.{List, [], ◌∷◌}
use lib.Dec.{eqb}
use lib.ListN.{length, get_or, take}
use lib.Bits.{bit_or, bit_xor, or_add_and, xor_add_and, and_le_l, and_le_r, xor_self}
use borrow.Author.Tests.{eq-eqb, ne_eqb, eqb-true, eqb-false}
use Rattle.derived.specs.Derived.{same_bytes}

or_xor : (d x y : ℕ) → eqb (bit_or d (bit_xor x y)) 0 ≡ (eqb d 0 && eqb x y)
or_xor d x y = go (eqb d 0) (eqb x y) refl refl
  where
    go : (a b : Bool) → eqb d 0 ≡ a → eqb x y ≡ b → eqb (bit_or d (bit_xor x y)) 0 ≡ (a && b)
    go true true p q =
        let e : bit_xor x y ≡ 0 = ap (bit_xor x) (sym (eqb-true x y q)) ∙ xor_self x in
        let f : d ≡ 0 = eqb-true d 0 p in
        let g : bit_or d (bit_xor x y) ≡ 0 = omega (arith, or_add_and d (bit_xor x y)) in
        eq-eqb _ _ g
    go true false p q =
        ne_eqb _ _
        (λ (z : bit_or d (bit_xor x y) ≡ 0).
        eqb-false x y q (omega (arith, or_add_and d (bit_xor x y), and_le_l d (bit_xor x y), and_le_r d (bit_xor x y), xor_add_and x y, and_le_l x y, and_le_r x y)))
    go false b p q = ne_eqb _ _ (λ (z : bit_or d (bit_xor x y) ≡ 0). eqb-false d 0 p (omega (arith, or_add_and d (bit_xor x y), and_le_l d (bit_xor x y), and_le_r d (bit_xor x y))))

same_last : (a b : List ℕ) (i : ℕ) → i < length a → i < length b → same_bytes (take (suc i) a) (take (suc i) b) ≡ (same_bytes (take i a) (take i b) && eqb (get_or a i 0) (get_or b i 0))
unfolding same_bytes
same_last [] b i h k = absurd (not-suc-le-zero h)
same_last (x ∷ a) [] i h k = absurd (not-suc-le-zero k)
same_last (x ∷ a) (y ∷ b) zero h k = last (eqb x y)
  where
    last : (t : Bool) → (t && true) ≡ t
    last true = refl
    last false = refl
same_last (x ∷ a) (y ∷ b) (suc i) h k = ap (λ (t : Bool). eqb x y && t) (same_last a b i (le_of_suc-le-suc h) (le_of_suc-le-suc k)) ∙ group (eqb x y) (same_bytes (take i a) (take i b)) (eqb (get_or a i 0) (get_or b i 0))
  where
    group : (p q r : Bool) → (p && (q && r)) ≡ ((p && q) && r)
    group true q r = refl
    group false q r = refl

pub alike_more : (a b : List ℕ) (i d : ℕ) → i < length a → i < length b → eqb d 0 ≡ same_bytes (take i a) (take i b)
    → eqb (bit_or d (bit_xor (get_or a i 0) (get_or b i 0))) 0 ≡ same_bytes (take (i + 1) a) (take (i + 1) b)
alike_more a b i d h k e =
    or_xor d (get_or a i 0) (get_or b i 0)
    ∙ ap (λ (t : Bool). t && eqb (get_or a i 0) (get_or b i 0)) e
    ∙ sym (same_last a b i h k)
    ∙ ap (λ (j : ℕ). same_bytes (take j a) (take j b)) (sym (add-one i))
