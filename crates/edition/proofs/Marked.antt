-- A recording with its mark and one without. Assumes nothing.
use Prim.Native.Nat.{ℕ, ◌≤◌, ◌<◌}
use mathlib.Core.Bool.{Bool, true, false, ◌&&◌}
use mathlib.Core.List.{List}
use mathlib.Core.Path.{◌≡◌, refl, sym, ◌∙◌}
use native.Mathlib.Omega.{arith}
use borrow.Author.Tests.{lt-ltb, le-ltb, ltb-true, ltb-false, ne_eqb}
use lib.Dec.{T, eqb, ltb, eqb→eq}
use lib.ListN.{length, get_or}
use Rattle.codec.proofs.Tests.{left, right, T_true, true_T}
use Rattle.machine.specs.Codes.{three_rates, two_rates}
use Rattle.edition.specs.Edition.{marked, rates_of, start_of, mark_at}

module _ (s : List ℕ) where
  pub too_short : length s < 2 → false ≡ marked s
  unfolding marked
  too_short h = sym (rw (lt-ltb (length s) 2 h))

  pub long_enough : 2 ≤ length s → (eqb (get_or s 0 0) 0 && eqb (get_or s 1 0) 2) ≡ marked s
  unfolding marked
  long_enough h = sym (rw (le-ltb (length s) 2 h))

  -- the rates and the start of either
  pub new_rates : marked s ≡ true → rates_of s ≡ two_rates
  unfolding rates_of
  new_rates e = rw e

  pub old_rates : marked s ≡ false → rates_of s ≡ three_rates
  unfolding rates_of
  old_rates e = rw e

  pub new_start : marked s ≡ true → 2 ≡ start_of s
  unfolding start_of
  new_start e = sym (rw e)

  pub old_start : marked s ≡ false → 0 ≡ start_of s
  unfolding start_of
  old_start e = sym (rw e)

  -- the mark lies inside the recording
  pub start_inside : start_of s ≤ length s
  start_inside = by_length (ltb (length s) 2) refl
    where
      at_most_two : (b : Bool) → marked s ≡ b → start_of s ≤ 2
      at_most_two true e = omega (arith, new_start e)
      at_most_two false e = omega (arith, old_start e)

      by_length : (b : Bool) → ltb (length s) 2 ≡ b → start_of s ≤ length s
      by_length true e = omega (arith, old_start (sym (too_short (ltb-true (length s) 2 e))))
      by_length false e = omega (arith, ltb-false (length s) 2 e, at_most_two (marked s) refl)

  -- behind the very start there is no mark
  pub no_mark : (at : ℕ) → 0 < at → mark_at s at ≡ false
  unfolding mark_at
  no_mark at h = rw (ne_eqb at 0 (λ e. omega arith))

  -- the mark is at the very start, and two bytes are there
  pub at_mark : (at : ℕ) → mark_at s at ≡ true → (at ≡ 0) × (marked s ≡ true)
  unfolding mark_at
  at_mark at e =
      let t : T (eqb at 0 && marked s) = true_T _ e in
      (eqb→eq at 0 (left (eqb at 0) (marked s) t), T_true (marked s) (right (eqb at 0) (marked s) t))
