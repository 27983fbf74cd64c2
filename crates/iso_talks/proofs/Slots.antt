-- What validity is of a place that holds a value or none, as code finds it out: empty, taken, neither. Assumes nothing.
use mathlib.Core.Path.{◌≡◌, refl, sym, ap, ◌∙◌}
use Prim.Native.Nat.{ℕ, zero, suc, ◌+◌}
use mathlib.Core.Bool.{Bool, false}
use mathlib.Core.List.{List}
use lib.ListN.{length, get_or, take, drop}
use Rattle.codec.specs.Plain.{all_zero}
use Rattle.codec.specs.Code.{Code, slot, valid_slot}
use Rattle.stored_records.proofs.Parts.{rest_part}

module _ {A : Type 0} (c : Code A) (m : List ℕ) where
  pub slot_empty : (n : ℕ) → length m ≡ 1 + n → get_or m 0 0 ≡ 0 → all_zero (take n (drop 1 m)) ≡ (slot c).valid m
  unfolding slot
  slot_empty n h e = ap (λ (x : List ℕ). all_zero x) (rest_part 1 n m h) ∙ ap (λ (k : ℕ). valid_slot c k (drop 1 m)) (sym e)

  pub slot_taken : get_or m 0 0 ≡ 1 → c.valid (drop 1 m) ≡ (slot c).valid m
  unfolding slot
  slot_taken e = ap (λ (k : ℕ). valid_slot c k (drop 1 m)) (sym e)

  pub slot_neither : (get_or m 0 0 ≡ 0 → ⊥) → (get_or m 0 0 ≡ 1 → ⊥) → false ≡ (slot c).valid m
  unfolding slot
  slot_neither a b = go (get_or m 0 0) a b
    where
      go : (k : ℕ) → (k ≡ 0 → ⊥) → (k ≡ 1 → ⊥) → false ≡ valid_slot c k (drop 1 m)
      go zero a b = absurd (a refl)
      go (suc zero) a b = absurd (b refl)
      go (suc (suc k)) a b = refl
