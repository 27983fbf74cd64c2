-- The name of a line: four bytes, or unknown. Assumes nothing.
use Rattle.std.specs.Prelude.{if◌then◌else◌}
use Prim.Native.Nat.{ℕ, zero, suc, ◌+◌, ◌-◌, ◌≤◌, ◌<◌}
use mathlib.Core.Path.{◌≡◌, refl, sym, ap, ◌∙◌}
use mathlib.Core.Bool.{Bool, true, false, ◌&&◌}
use mathlib.Core.List.{List, [], ◌∷◌}
use mathlib.Core.Option.{Option, none, some, bind}
use native.Mathlib.Omega.{arith}
use lib.Dec.{eqb, leb}
use lib.ListN.{length, get_or}
use Rattle.codec.specs.Plain.{within}
use Rattle.machine.specs.Limits.{last_line}
use Rattle.candump.specs.Line.{nought, can, behind, only, digit_only, bus_in}

-- it begins with "can"
begins : List ℕ → Bool
begins l = eqb (get_or l 0 0) 0x63 && eqb (get_or l 1 0) 0x61 && eqb (get_or l 2 0) 0x6E

or_none : {A : Type 0} (g : Bool) (o : Option A) → o ≡ none → (if g then o else none) ≡ none
or_none true o e = e
or_none false o e = refl

pub not_four : (l : List ℕ) → (length l ≡ 4 → ⊥) → none ≡ bus_in l
unfolding bus_in bind behind digit_only
not_four [] h = refl
not_four (a ∷ []) h = sym (by (eqb a 0x63))
  where
    by : (g : Bool) → bind (if◌then◌else◌ {A = Option (List ℕ)} g none none) digit_only ≡ none
    by true = refl
    by false = refl
not_four (a ∷ b ∷ []) h = sym (by (eqb a 0x63) (eqb b 0x61))
  where
    by : (g k : Bool) → bind (if◌then◌else◌ {A = Option (List ℕ)} g (if k then none else none) none) digit_only ≡ none
    by true true = refl
    by true false = refl
    by false k = refl
not_four (a ∷ b ∷ c ∷ []) h = sym (by (eqb a 0x63) (eqb b 0x61) (eqb c 0x6E))
  where
    by : (g k m : Bool) → bind (if◌then◌else◌ {A = Option (List ℕ)} g (if k then (if m then some [] else none) else none) none) digit_only ≡ none
    by true true true = refl
    by true true false = refl
    by true false m = refl
    by false k m = refl
not_four (a ∷ b ∷ c ∷ d ∷ []) h = absurd (h refl)
not_four (a ∷ b ∷ c ∷ d ∷ e ∷ l) h = sym (by (eqb a 0x63) (eqb b 0x61) (eqb c 0x6E))
  where
    by : (g k m : Bool) → bind (if◌then◌else◌ {A = Option (List ℕ)} g (if k then (if m then some (d ∷ e ∷ l) else none) else none) none) digit_only ≡ none
    by true true true = refl
    by true true false = refl
    by true false m = refl
    by false k m = refl

-- of four bytes
name_law : (l : List ℕ) → length l ≡ 4
    → bus_in l ≡ (if begins l then only (within nought (nought + last_line) (get_or l 3 0)) (get_or l 3 0 - nought) else none)
unfolding bus_in bind behind digit_only begins
name_law [] h = absurd (omega arith)
name_law (a ∷ []) h = absurd (omega arith)
name_law (a ∷ b ∷ []) h = absurd (omega arith)
name_law (a ∷ b ∷ c ∷ []) h = absurd (omega arith)
name_law (a ∷ b ∷ c ∷ d ∷ []) h = by (eqb a 0x63) (eqb b 0x61) (eqb c 0x6E)
  where
    by : (g k m : Bool) → bind (if◌then◌else◌ {A = Option (List ℕ)} g (if k then (if m then some (d ∷ []) else none) else none) none) digit_only
        ≡ (if g && k && m then only (within nought (nought + last_line) d) (d - nought) else none)
    by true true true = refl
    by true true false = refl
    by true false m = refl
    by false k m = refl
name_law (a ∷ b ∷ c ∷ d ∷ e ∷ l) h = absurd (omega arith)

module _ (l : List ℕ) (four : length l ≡ 4) where
  pub not_can : (eqb (get_or l 0 0) 0x63 && eqb (get_or l 1 0) 0x61 && eqb (get_or l 2 0) 0x6E) ≡ false → none ≡ bus_in l
  unfolding begins
  not_can e = sym (name_law l four ∙ ap (λ (g : Bool). if g then only (within nought (nought + last_line) (get_or l 3 0)) (get_or l 3 0 - nought) else none) e)

  module _ (e : (eqb (get_or l 0 0) 0x63 && eqb (get_or l 1 0) 0x61 && eqb (get_or l 2 0) 0x6E) ≡ true) where
    digit_law : bus_in l ≡ only (within nought (nought + last_line) (get_or l 3 0)) (get_or l 3 0 - nought)
    unfolding begins
    digit_law = name_law l four ∙ ap (λ (g : Bool). if g then only (within nought (nought + last_line) (get_or l 3 0)) (get_or l 3 0 - nought) else none) e

    pub a_line : (leb nought (get_or l 3 0) && leb (get_or l 3 0) (nought + last_line)) ≡ true → some (get_or l 3 0 - nought) ≡ bus_in l
    unfolding only within
    a_line t =
        sym (digit_law ∙ ap (λ (g : Bool). if◌then◌else◌ {A = Option ℕ} g (some (get_or l 3 0 - nought)) none) t)

    pub no_line : (leb nought (get_or l 3 0) && leb (get_or l 3 0) (nought + last_line)) ≡ false → none ≡ bus_in l
    unfolding only within
    no_line t = sym (digit_law ∙ ap (λ (g : Bool). if◌then◌else◌ {A = Option ℕ} g (some (get_or l 3 0 - nought)) none) t)
