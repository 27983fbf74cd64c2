-- Where a byte stands, one place after the other. Assumes nothing.
use Rattle.std.specs.Prelude.{if◌then◌else◌, Option, Some, None}
use Rattle.std.specs.Option.{unwrap_or}
use Prim.Native.Nat.{ℕ, zero, suc, ◌+◌, ◌≤◌, ◌<◌}
use mathlib.Core.Path.{◌≡◌, refl, sym, ap, subst, ◌∙◌}
use mathlib.Core.Bool.{Bool, true, false}
use mathlib.Core.List.{List, [], ◌∷◌}
use native.Mathlib.Numerals.{add-one}
use native.Mathlib.Omega.{arith}
use borrow.Author.Tests.{eq-eqb, ne_eqb, lt-ltb, le-ltb, ltb-true, ltb-false}
use lib.Dec.{eqb, ltb}
use lib.ListN.{length, get_or, drop, length-drop, drop_of_length-le}
use lib.Seq.{drop-cons}
use Rattle.text_reader.specs.Reading.{before, first_at}

module _ (c : ℕ) (s : List ℕ) (i : ℕ) where
  pub found_here : i < length s → get_or s i 0 ≡ c → before c (drop i s) ≡ 0
  unfolding before
  found_here h e = rw (drop-cons s i 0 h, eq-eqb (get_or s i 0) c e)

  pub found_later : i < length s → (get_or s i 0 ≡ c → ⊥) → before c (drop i s) ≡ 1 + before c (drop (i + 1) s)
  unfolding before
  found_later h e = rw (add-one i, drop-cons s i 0 h, ne_eqb (get_or s i 0) c e) (omega arith)

  pub found_none : length s ≤ i → before c (drop i s) ≡ 0
  unfolding before
  found_none h = ap (before c) (drop_of_length-le s {i = i} h)

pub before_inside : (c : ℕ) (l : List ℕ) → before c l ≤ length l
unfolding before
before_inside c [] = omega arith
before_inside c (x ∷ xs) = by (eqb x c) (before_inside c xs)
  where
    by : (g : Bool) → before c xs ≤ length xs → (if g then zero else suc (before c xs)) ≤ suc (length xs)
    by true h = omega arith
    by false h = omega arith

-- what was found from a place on is inside the slice
pub found_inside : (c : ℕ) (s : List ℕ) (at p : ℕ) → at ≤ length s → p ≡ at + before c (drop at s) → (at ≤ p) × (p ≤ length s)
found_inside c s at p h e = (omega arith, omega (arith, before_inside c (drop at s), length-drop at s))

-- ---- the answer of the search

-- a place that was found: it is in the slice
pub record Found (c : ℕ) (s : List ℕ) (at p : ℕ) : Type 0 where
  pub is : p ≡ at + before c (drop at s)
  pub inside : p < length s

module _ (c : ℕ) (s : List ℕ) (at : ℕ) where
  pub is_first : (p : ℕ) → p ≡ at + before c (drop at s) → p < length s → Some p ≡ first_at c s at
  unfolding first_at
  is_first p e h = subst (λ (n : ℕ). Some p ≡ (if ltb n (length s) then Some n else None)) e (rw (lt-ltb p (length s) h))

  pub is_nowhere : length s ≤ at + before c (drop at s) → None ≡ first_at c s at
  unfolding first_at
  is_nowhere h = rw (le-ltb (at + before c (drop at s)) (length s) h)

  pub first_there : (p : ℕ) → Some p ≡ first_at c s at → Found c s at p
  unfolding first_at
  first_there p = by (ltb (at + before c (drop at s)) (length s)) refl
    where
      by : (g : Bool) → ltb (at + before c (drop at s)) (length s) ≡ g → Some p ≡ (if g then Some (at + before c (drop at s)) else None) → Found c s at p
      by true q e =
          let same : p ≡ at + before c (drop at s) = cc in
          record { is = same; inside = omega (arith, ltb-true (at + before c (drop at s)) (length s) q) }
      by false q e = let z : ◌≡◌ {A = ℕ} 0 1 = cc in absurd (omega arith)

  pub first_missing : None ≡ first_at c s at → length s ≤ at + before c (drop at s)
  unfolding first_at
  first_missing = by (ltb (at + before c (drop at s)) (length s)) refl
    where
      by : (g : Bool) → ltb (at + before c (drop at s)) (length s) ≡ g → ◌≡◌ {A = Option ℕ} None (if g then Some (at + before c (drop at s)) else None) → length s ≤ at + before c (drop at s)
      by true q e = let z : ◌≡◌ {A = ℕ} 0 1 = cc in absurd (omega arith)
      by false q e = ltb-false (at + before c (drop at s)) (length s) q

  -- the place that was found, or the end
  pub first_or_end : (r : Option ℕ) → r ≡ first_at c s at → at ≤ length s → unwrap_or r (length s) ≡ at + before c (drop at s)
  first_or_end None e h = omega (arith, first_missing e, (found_inside c s at (at + before c (drop at s)) h refl).1)
  first_or_end (Some p) e h = (first_there p e).is
