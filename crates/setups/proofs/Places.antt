-- Places and their numbers: the taken places in order of number, and the places of numbers that rise. Assumes nothing.
use Rattle.std.specs.Prelude.{if◌then◌else◌}
use Prim.Native.Nat.{ℕ, zero, suc, ◌+◌, ◌<◌}
use mathlib.Core.Path.{◌≡◌, refl, sym, ap, ◌∙◌, subst}
use mathlib.Core.Bool.{Bool, true, false}
use mathlib.Core.List.{List, [], ◌∷◌, ◌++◌, append_assoc}
use mathlib.Core.Option.{none, some}
use native.Mathlib.Nat.{add-zero}
use native.Mathlib.Omega.{arith}
use borrow.Author.Tests.{eq-eqb, ne_eqb, eqb-true, eqb-false}
use lib.Dec.{eqb}
use lib.ListN.{length}
use Rattle.machine.specs.Filter.{Slots}
use Rattle.number.specs.Number.{bytes_of}
use Rattle.machine.specs.Store.{numbered, each_bytes, placed}
use Rattle.setups.specs.Good.{Holds, Every}
use Rattle.setups.specs.Saved.{Rising}

module _ {A : Type 0} where
  rising_lower : (k high : ℕ) (es : List (ℕ × A)) → Rising (suc k) high es → Rising k high es
  rising_lower k high [] r = tt
  rising_lower k high (e ∷ es) r = let h = r.0 in (omega arith, r.1)

  pub numbered_rising : (k high : ℕ) (s : Slots A) → k + length s ≡ high → Rising k high (numbered (suc k) s)
  unfolding numbered
  numbered_rising k high [] h = tt
  numbered_rising k high (none ∷ s) h = rising_lower k high (numbered (suc (suc k)) s) (numbered_rising (suc k) high s (omega arith))
  numbered_rising k high (some a ∷ s) h = (omega arith, (omega arith, numbered_rising (suc k) high s (omega arith)))

  skip : (k n high : ℕ) (es : List (ℕ × A)) → Rising k high es → placed k (suc n) es ≡ none ∷ placed (suc k) n es
  unfolding placed
  skip k n high [] r = refl
  skip k n high (e ∷ es) r = let h = r.0 in rw (ne_eqb e.0 k (λ z. omega arith))

  pub placed_numbered : (k : ℕ) (s : Slots A) → placed (suc k) (length s) (numbered (suc k) s) ≡ s
  unfolding placed numbered
  placed_numbered k [] = refl
  placed_numbered k (none ∷ s) =
      skip (suc k) (length s) (suc k + length s) (numbered (suc (suc k)) s) (numbered_rising (suc k) _ s refl) ∙ ap {B = Slots A} (λ r. none ∷ r) (placed_numbered (suc k) s)
  placed_numbered k (some a ∷ s) = rw (eq-eqb (suc k) (suc k) refl) (ap {B = Slots A} (λ r. some a ∷ r) (placed_numbered (suc k) s))

  pub numbered_placed : (k n high : ℕ) (es : List (ℕ × A)) → k + n ≡ high → Rising k high es → numbered (suc k) (placed (suc k) n es) ≡ es
  unfolding placed numbered
  numbered_placed k zero high [] h r = refl
  numbered_placed k zero high (e ∷ es) h r = let a = r.0 in let b = r.1.0 in absurd (omega arith)
  numbered_placed k (suc n) high [] h r = numbered_placed (suc k) n high [] (omega arith) tt
  numbered_placed k (suc n) high (e ∷ es) h r = go (eqb e.0 (suc k)) refl (λ q. numbered_placed (suc k) n high (e ∷ es) (omega arith) q) (λ q. numbered_placed (suc k) n high es (omega arith) q)
    where
      go : (t : Bool) → eqb e.0 (suc k) ≡ t → (Rising (suc k) high (e ∷ es) → numbered (suc (suc k)) (placed (suc (suc k)) n (e ∷ es)) ≡ e ∷ es)
          → (Rising (suc k) high es → numbered (suc (suc k)) (placed (suc (suc k)) n es) ≡ es)
          → numbered (suc k) (if t then some e.1 ∷ placed (suc (suc k)) n es else none ∷ placed (suc (suc k)) n (e ∷ es)) ≡ e ∷ es
      go true q f g =
          let same : e.0 ≡ suc k = eqb-true e.0 (suc k) q in
          ap {B = List (ℕ × A)} (λ r. (suc k, e.1) ∷ r) (g (subst (λ (j : ℕ). Rising j high es) same r.1.1))
          ∙ ap {B = List (ℕ × A)} (λ (j : ℕ). (j, e.1) ∷ es) (sym same)
      go false q f g =
          let other = eqb-false e.0 (suc k) q in
          let low = r.0 in
          let above : suc k < e.0 = by e.0 low other in
          f (above, r.1)
        where
          by : (j : ℕ) → k < j → (j ≡ suc k → ⊥) → suc k < j
          by j l o = omega arith

  pub placed_long : (k n : ℕ) (es : List (ℕ × A)) → length (placed k n es) ≡ n
  unfolding placed
  placed_long k zero es = refl
  placed_long k (suc n) [] = ap suc (placed_long (suc k) n [])
  placed_long k (suc n) (e ∷ es) = go (eqb e.0 k) (placed_long (suc k) n es) (placed_long (suc k) n (e ∷ es))
    where
      go : (t : Bool) → length (placed (suc k) n es) ≡ n → length (placed (suc k) n (e ∷ es)) ≡ n
          → length (if t then some e.1 ∷ placed (suc k) n es else none ∷ placed (suc k) n (e ∷ es)) ≡ suc n
      go true f g = ap suc f
      go false f g = ap suc g

  module _ (P : A → Type 0) where
    pub numbered_each : (k : ℕ) (s : Slots A) → Every (Holds P) s → Every (λ e. P e.1) (numbered k s)
    unfolding numbered
    numbered_each k [] h = tt
    numbered_each k (none ∷ s) h = numbered_each (suc k) s h.1
    numbered_each k (some a ∷ s) h = (h.0, numbered_each (suc k) s h.1)

    pub placed_each : (k n : ℕ) (es : List (ℕ × A)) → Every (λ e. P e.1) es → Every (Holds P) (placed k n es)
    unfolding placed
    placed_each k zero es h = tt
    placed_each k (suc n) [] h = (tt, placed_each (suc k) n [] h)
    placed_each k (suc n) (e ∷ es) h = go (eqb e.0 k) (placed_each (suc k) n es h.1) (placed_each (suc k) n (e ∷ es) h)
      where
        go : (t : Bool) → Every (Holds P) (placed (suc k) n es) → Every (Holds P) (placed (suc k) n (e ∷ es))
            → Every (Holds P) (if t then some e.1 ∷ placed (suc k) n es else none ∷ placed (suc k) n (e ∷ es))
        go true f g = (h.0, f)
        go false f g = (tt, g)

-- ---- more places behind, for code that writes one after the other

pub numbered_more : {A : Type 0} (k : ℕ) (s t : Slots A) → numbered k (s ++ t) ≡ numbered k s ++ numbered (k + length s) t
unfolding numbered
numbered_more k [] t = ap (λ (j : ℕ). numbered j t) (sym (add-zero k))
numbered_more k (none ∷ s) t = numbered_more (suc k) s t ∙ ap (λ (j : ℕ). numbered (suc k) s ++ numbered j t) (omega arith)
numbered_more {A} k (some a ∷ s) t =
    ap {B = List (ℕ × A)} (λ r. (k, a) ∷ r) (numbered_more (suc k) s t ∙ ap (λ (j : ℕ). numbered (suc k) s ++ numbered j t) (omega arith))

pub each_more : {A : Type 0} (w : A → List ℕ) (es fs : List (ℕ × A)) → each_bytes w (es ++ fs) ≡ each_bytes w es ++ each_bytes w fs
unfolding each_bytes
each_more w [] fs = refl
each_more w (e ∷ es) fs =
    ap (λ (r : List ℕ). bytes_of e.0 ++ (w e.1 ++ r)) (each_more w es fs)
    ∙ ap (λ (r : List ℕ). bytes_of e.0 ++ r) (sym (append_assoc (w e.1) (each_bytes w es) (each_bytes w fs)))
    ∙ sym (append_assoc (bytes_of e.0) (w e.1 ++ each_bytes w es) (each_bytes w fs))
