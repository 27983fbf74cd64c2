-- A text is cut where a byte is found. Assumes nothing.
use Rattle.std.specs.Prelude.{if◌then◌else◌}
use Prim.Native.Nat.{ℕ, zero, suc, ◌+◌, ◌-◌, ◌≤◌, ◌<◌}
use mathlib.Core.Path.{◌≡◌, refl, sym, ap, ap₂, ◌∙◌}
use mathlib.Core.Bool.{Bool, true, false}
use mathlib.Core.List.{List, [], ◌∷◌}
use mathlib.Core.Option.{Option, none, some, map}
use native.Mathlib.Omega.{arith}
use borrow.Author.Tests.{eq-eqb, ne_eqb}
use lib.Dec.{eqb}
use lib.ListN.{length, get_or, take, drop, length-drop}
use lib.Seq.{drop-drop, drop-cons}
use Rattle.text_reader.specs.Reading.{before}
use Rattle.candump.specs.Line.{cut, behind}

-- ---- the whole of a text

cut_here : (c : ℕ) (l : List ℕ) → before c l < length l → cut c l ≡ some (take (before c l) l, drop (suc (before c l)) l)
unfolding cut before
cut_here c [] h = absurd (omega arith)
cut_here c (x ∷ xs) h = by (eqb x c) refl (cut_here c xs) h
  where
    by : (g : Bool) → eqb x c ≡ g → (before c xs < length xs → cut c xs ≡ some (take (before c xs) xs, drop (suc (before c xs)) xs))
        → (if g then zero else suc (before c xs)) < suc (length xs)
        → ◌≡◌ {A = Option (List ℕ × List ℕ)} (if g then some ([], xs) else map (λ p. (x ∷ p.0, p.1)) (cut c xs))
        (some (take (if g then zero else suc (before c xs)) (x ∷ xs), drop (suc (if g then zero else suc (before c xs))) (x ∷ xs)))
    by true q ih k = refl
    by false q ih k = ap (map (λ (p : List ℕ × List ℕ). (x ∷ p.0, p.1))) (ih (omega arith))

cut_nowhere : (c : ℕ) (l : List ℕ) → length l ≤ before c l → cut c l ≡ none
unfolding cut before
cut_nowhere c [] h = refl
cut_nowhere c (x ∷ xs) h = by (eqb x c) (cut_nowhere c xs) h
  where
    by : (g : Bool) → (length xs ≤ before c xs → cut c xs ≡ none) → suc (length xs) ≤ (if g then zero else suc (before c xs))
        → ◌≡◌ {A = Option (List ℕ × List ℕ)} (if g then some ([], xs) else map (λ p. (x ∷ p.0, p.1)) (cut c xs)) none
    by true ih k = absurd (omega arith)
    by false ih k = ap (map (λ (p : List ℕ × List ℕ). (x ∷ p.0, p.1))) (ih (omega arith))

-- ---- from a place on

module _ (c : ℕ) (s : List ℕ) (at p : ℕ) (start : at ≤ length s) (e : p ≡ at + before c (drop at s)) where
  pub cut_found : p < length s → cut c (drop at s) ≡ some (take (p - at) (drop at s), drop (p + 1) s)
  cut_found h =
      let n : p - at ≡ before c (drop at s) = omega arith in
      let k : at + suc (before c (drop at s)) ≡ p + 1 = omega arith in
      cut_here c (drop at s) (omega (arith, length-drop at s))
      ∙ ap₂ (λ (a b : List ℕ). some (a, b)) (ap (λ (n : ℕ). take n (drop at s)) (sym n)) (drop-drop (suc (before c (drop at s))) at s ∙ ap (λ (n : ℕ). drop n s) k)

  pub cut_missing : length s ≤ p → cut c (drop at s) ≡ none
  cut_missing h = cut_nowhere c (drop at s) (omega (arith, length-drop at s))

-- ---- one byte

module _ (c : ℕ) (s : List ℕ) (at : ℕ) where
  pub begins : at < length s → get_or s at 0 ≡ c → behind (c ∷ []) (drop at s) ≡ some (drop (at + 1) s)
  unfolding behind
  begins h e = let k : suc at ≡ at + 1 = omega arith in rw (drop-cons s at 0 h, eq-eqb (get_or s at 0) c e, k)

  pub begins_not : at < length s → (get_or s at 0 ≡ c → ⊥) → behind (c ∷ []) (drop at s) ≡ none
  unfolding behind
  begins_not h e = rw (drop-cons s at 0 h, ne_eqb (get_or s at 0) c e)

  pub begins_nothing : length s ≤ at → behind (c ∷ []) (drop at s) ≡ none
  unfolding behind
  begins_nothing h = by (drop at s) (omega (arith, length-drop at s))
    where
      by : (l : List ℕ) → length l ≡ 0 → behind (c ∷ []) l ≡ none
      by [] k = refl
      by (x ∷ xs) k = absurd (omega arith)
