-- Entries put one by one into empty places, as a loop that loads them does. Assumes nothing.
use Rattle.std.specs.Prelude.{if◌then◌else◌}
use Prim.Native.Nat.{ℕ, zero, suc, ◌+◌, ◌-◌, ◌<◌}
use mathlib.Core.Path.{◌≡◌, refl, sym, ap, ap₂, ◌∙◌, subst}
use mathlib.Core.Bool.{Bool, true, false}
use mathlib.Core.List.{List, [], ◌∷◌, ◌++◌, map, append_assoc}
use mathlib.Core.Option.{Option, none, some}
use native.Mathlib.Omega.{arith}
use borrow.Author.Tests.{eqb-true, eqb-false}
use lib.Dec.{eqb}
use lib.ListN.{length, set, replicate, length-append}
use lib.Seq.{set-append_seam}
use Rattle.machine.specs.Filter.{Slots, none_yet}
use Rattle.machine.specs.Store.{placed}
use Rattle.setups.specs.Saved.{Rising, filled}

module _ {A : Type 0} where
  empty : ℕ → Slots A
  empty n = replicate n none

  none_placed : (k n : ℕ) → placed k n [] ≡ empty n
  unfolding placed empty
  none_placed k zero = refl
  none_placed k (suc n) = ap {B = Slots A} (λ r. none ∷ r) (none_placed (suc k) n)

  -- k places are done, n are empty
  fill : (k n high : ℕ) (xs : Slots A) (es : List (ℕ × A)) → length xs ≡ k → k + n ≡ high → Rising k high es → filled (xs ++ empty n) es ≡ xs ++ placed (suc k) n es
  unfolding filled placed empty
  fill k zero high xs [] l h r = refl
  fill k zero high xs (e ∷ es) l h r = let a = r.0 in let b = r.1.0 in absurd (omega arith)
  fill k (suc n) high xs [] l h r = ap (λ (t : Slots A). xs ++ t) (sym (none_placed (suc k) (suc n)))
  fill k (suc n) high xs (e ∷ es) l h r =
      let longer : (x : Option A) → length (xs ++ x ∷ []) ≡ suc k = λ x. length-append xs (x ∷ []) ∙ omega arith in
      go (eqb e.0 (suc k)) refl
      (λ q. fill (suc k) n high (xs ++ none ∷ []) (e ∷ es) (longer none) (omega arith) q)
      (λ q. fill (suc k) n high (xs ++ some e.1 ∷ []) es (longer (some e.1)) (omega arith) q)
    where
      go : (t : Bool) → eqb e.0 (suc k) ≡ t
          → (Rising (suc k) high (e ∷ es) → filled ((xs ++ none ∷ []) ++ empty n) (e ∷ es) ≡ (xs ++ none ∷ []) ++ placed (suc (suc k)) n (e ∷ es))
          → (Rising (suc k) high es → filled ((xs ++ some e.1 ∷ []) ++ empty n) es ≡ (xs ++ some e.1 ∷ []) ++ placed (suc (suc k)) n es)
          → filled (xs ++ none ∷ empty n) (e ∷ es) ≡ xs ++ (if t then some e.1 ∷ placed (suc (suc k)) n es else none ∷ placed (suc (suc k)) n (e ∷ es))
      go true q f g =
          let same : e.0 ≡ suc k = eqb-true e.0 (suc k) q in
          let index : e.0 - 1 ≡ length xs = omega arith in
          ap (λ (i : ℕ). filled (set (xs ++ none ∷ empty n) i (some e.1)) es) index
          ∙ ap (λ (s : Slots A). filled s es) (set-append_seam xs none (empty n) (some e.1) ∙ sym (append_assoc xs (some e.1 ∷ []) (empty n)))
          ∙ g (subst (λ (j : ℕ). Rising j high es) same r.1.1)
          ∙ append_assoc xs (some e.1 ∷ []) (placed (suc (suc k)) n es)
      go false q f g =
          let above : suc k < e.0 = by e.0 r.0 (eqb-false e.0 (suc k) q) in
          ap (λ (s : Slots A). filled s (e ∷ es)) (sym (append_assoc xs (none ∷ []) (empty n)))
          ∙ f (above, r.1)
          ∙ append_assoc xs (none ∷ []) (placed (suc (suc k)) n (e ∷ es))
        where
          by : (j : ℕ) → k < j → (j ≡ suc k → ⊥) → suc k < j
          by j l o = omega arith

  -- THE SECOND WALK: from ten empty places, each entry at its own index gives the places that were read
  pub filled_placed : (es : List (ℕ × A)) → Rising 0 10 es → filled none_yet es ≡ placed 1 10 es
  unfolding none_yet empty
  filled_placed es r = fill 0 10 10 [] es refl (omega arith) r

-- ---- entries made into something else, place by place

module _ {A B : Type 0} (f : A → B) (g : Option A → Option B) (empty-stays : g none ≡ none) (each-made : (a : A) → g (some a) ≡ some (f a)) where
  placed_made : (k n : ℕ) (es : List (ℕ × A)) → map g (placed k n es) ≡ placed k n (map (λ e. (e.0, f e.1)) es)
  unfolding placed
  placed_made k zero es = refl
  placed_made k (suc n) [] = ap₂ {C = Slots B} (λ x r. x ∷ r) empty-stays (placed_made (suc k) n [])
  placed_made k (suc n) (e ∷ es) = go (eqb e.0 k) (placed_made (suc k) n es) (placed_made (suc k) n (e ∷ es))
    where
      fs : List (ℕ × B)
      fs = map (λ e. (e.0, f e.1)) es

      go : (t : Bool) → map g (placed (suc k) n es) ≡ placed (suc k) n fs → map g (placed (suc k) n (e ∷ es)) ≡ placed (suc k) n ((e.0, f e.1) ∷ fs)
          → map g (if t then some e.1 ∷ placed (suc k) n es else none ∷ placed (suc k) n (e ∷ es))
          ≡ (if t then some (f e.1) ∷ placed (suc k) n fs else none ∷ placed (suc k) n ((e.0, f e.1) ∷ fs))
      go true q r = ap₂ {C = Slots B} (λ x r. x ∷ r) (each-made e.1) q
      go false q r = ap₂ {C = Slots B} (λ x r. x ∷ r) empty-stays r

  made_rising : (before high : ℕ) (es : List (ℕ × A)) → Rising before high es → Rising before high (map (λ e. (e.0, f e.1)) es)
  made_rising before high [] r = tt
  made_rising before high (e ∷ es) r = (r.0, (r.1.0, made_rising e.0 high es r.1.1))

  -- THE SECOND WALK OF THE PERIODICS: each entry made a periodic and put at its own index
  pub filled_made : (es : List (ℕ × A)) → Rising 0 10 es → filled none_yet (map (λ e. (e.0, f e.1)) es) ≡ map g (placed 1 10 es)
  filled_made es r = filled_placed (map (λ e. (e.0, f e.1)) es) (made_rising 0 10 es r) ∙ sym (placed_made 1 10 es)
