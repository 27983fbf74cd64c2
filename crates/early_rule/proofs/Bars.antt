-- A cube chosen or not; and the block filters that are not longer than a pass filter. Assumes nothing.
use mathlib.Core.Path.{◌≡◌, refl, sym, ap, ap₂, ◌∙◌}
use Prim.Native.Nat.{ℕ, ◌+◌, ◌-◌, ◌≤◌, ◌<◌}
use native.Mathlib.Omega.{arith}
use mathlib.Core.Bool.{Bool, true, false, ◌&&◌, ◌||◌}
use mathlib.Core.List.{List}
use lib.Dec.{eqb, leb}
use lib.ListN.{get_or}
use lib.Bits.{bit_and, and_zero_r}
use borrow.Author.Tests.{eq-eqb, eqb-true, leb-true, leb-false}
use Rattle.cubes.specs.Cube.{Outside, Answered}
use Rattle.machine.specs.Limits.{most_places, least_data}
use Rattle.filterwalk.specs.Columns.{listed}
use Rattle.filterwalk.proofs.Listed.{listed_at}
use Rattle.early_rule.specs.Words.{mask_word, pattern_word, type_at, size_at, bars, Clear, Passing}

-- ---- a cube or none

pub mask_taken : (t : Bool) (m : ℕ) → t ≡ true → m ≡ mask_word t m
unfolding mask_word
mask_taken t m e = rw e

pub pattern_taken : (t : Bool) (m : ℕ) → t ≡ true → m ≡ pattern_word t m
unfolding pattern_word
pattern_taken t m e = rw e

pub mask_left : (t : Bool) (m : ℕ) → t ≡ false → 0 ≡ mask_word t m
unfolding mask_word
mask_left t m e = rw e

pub pattern_left : (t : Bool) (m : ℕ) → t ≡ false → 1 ≡ pattern_word t m
unfolding pattern_word
pattern_left t m e = rw e

-- ---- the block filters that are not longer

both : (a b : Bool) → (a && b) ≡ true → (a ≡ true) × (b ≡ true)
both true b e = (refl, e)
both false b e = (cc, cc)

module _ (heads ms ps : List ℕ) (f : ℕ) where
  bars_is : (g : ℕ) → type_at heads g ≡ 2 → size_at heads g ≤ least_data + (size_at heads f - least_data) → bars heads f g ≡ true
  unfolding bars
  bars_is g e h = ap₂ (λ (a b : Bool). a && b) (eq-eqb _ _ e) (go (leb (size_at heads g) least_data) (leb (size_at heads g) (size_at heads f)) refl refl)
    where
      go : (a b : Bool) → leb (size_at heads g) least_data ≡ a → leb (size_at heads g) (size_at heads f) ≡ b → (a || b) ≡ true
      go true b p q = refl
      go false true p q = refl
      go false false p q = absurd (let x : least_data < size_at heads g = leb-false _ _ p in let y : size_at heads f < size_at heads g = leb-false _ _ q in omega arith)

  bars_was : (g : ℕ) → bars heads f g ≡ true → (type_at heads g ≡ 2) × (size_at heads g ≤ least_data + (size_at heads f - least_data))
  unfolding bars
  bars_was g e =
      let w = both (eqb (type_at heads g) 2) (leb (size_at heads g) least_data || leb (size_at heads g) (size_at heads f)) e in
      (eqb-true _ _ w.0, go (leb (size_at heads g) least_data) (leb (size_at heads g) (size_at heads f)) refl refl w.1)
    where
      go : (a b : Bool) → leb (size_at heads g) least_data ≡ a → leb (size_at heads g) (size_at heads f) ≡ b → (a || b) ≡ true → size_at heads g ≤ least_data + (size_at heads f - least_data)
      go true b p q e = let x : size_at heads g ≤ least_data = leb-true _ _ p in omega arith
      go false true p q e = let y : size_at heads g ≤ size_at heads f = leb-true _ _ q in omega arith
      go false false p q e = absurd (let z : ◌≡◌ {A = ℕ} 0 1 = cc in omega arith)

  abbrev pub bar_mask : ℕ → ℕ
  bar_mask g = mask_word (bars heads f g) (get_or ms g 0)

  abbrev pub bar_pattern : ℕ → ℕ
  bar_pattern g = pattern_word (bars heads f g) (get_or ps g 0)

  in_bar : (b : Bool) (m p x : ℕ) → bit_and x (mask_word b m) ≡ pattern_word b p → (b ≡ true) × (bit_and x m ≡ p)
  unfolding mask_word pattern_word
  in_bar true m p x e = (refl, e)
  in_bar false m p x e = let z : ◌≡◌ {A = ℕ} 0 1 = sym (and_zero_r x) ∙ e in absurd (omega arith)

  module _ (bm bp : List ℕ) (em : bm ≡ listed most_places bar_mask) (ep : bp ≡ listed most_places bar_pattern) where
    mask_at : (g : ℕ) → g < most_places → get_or bm g 0 ≡ bar_mask g
    mask_at g h = ap (λ (l : List ℕ). get_or l g 0) em ∙ listed_at bar_mask most_places g 0 h

    pattern_at_law : (g : ℕ) → g < most_places → get_or bp g 0 ≡ bar_pattern g
    pattern_at_law g h = ap (λ (l : List ℕ). get_or l g 0) ep ∙ listed_at bar_pattern most_places g 0 h

    to_clear : (x : ℕ) → Outside bm bp x → Clear heads ms ps f x
    to_clear x o g h two s i =
        let b = bars_is g two s in
        o g h (ap (bit_and x) (mask_at g h ∙ sym (mask_taken (bars heads f g) (get_or ms g 0) b)) ∙ i ∙ sym (pattern_at_law g h ∙ sym (pattern_taken (bars heads f g) (get_or ps g 0) b)))

    to_outside : (x : ℕ) → Clear heads ms ps f x → Outside bm bp x
    to_outside x c g h e =
        let w = in_bar (bars heads f g) (get_or ms g 0) (get_or ps g 0) x (ap (bit_and x) (sym (mask_at g h)) ∙ e ∙ pattern_at_law g h) in
        let v = bars_was g w.0 in
        c g h v.0 v.1 w.1

    pub is_passing : (r : Bool) → Answered bm bp (get_or ms f 0) (get_or ps f 0) r → Passing heads ms ps f r
    is_passing r a =
        record {
          some = λ e. let w = a.some e in (w.0, w.1, to_clear w.0 w.2);
          none = λ e x i c. a.none e x i (to_outside x c);
        }
