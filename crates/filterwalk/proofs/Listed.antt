-- An array that a loop fills from the front by the values of a function. Assumes nothing.
use mathlib.Core.Path.{◌≡◌, refl, sym, ap, ◌∙◌}
use Prim.Native.Nat.{ℕ, zero, suc, ◌+◌, ◌<◌}
use native.Mathlib.Nat.{not-suc-le-zero, le_of_suc-le-suc, eq-or-lt_of_le}
use native.Mathlib.Numerals.{add-one}
use native.Mathlib.Omega.{arith}
use mathlib.Core.Logic.{⊎_elim}
use mathlib.Core.List.{List, [], ◌∷◌}
use lib.ListN.{length, get_or, set, take, length-append, get_or-append}
use lib.Seq.{take-suc-set, take_all, get_or_at}
use Rattle.filterwalk.specs.Columns.{listed}

module _ {A : Type 0} (at : ℕ → A) where
  pub listed_long : (n : ℕ) → length (listed n at) ≡ n
  unfolding listed
  listed_long zero = refl
  listed_long (suc n) = length-append (listed n at) (at n ∷ []) ∙ ap (λ (k : ℕ). k + 1) (listed_long n) ∙ add-one n

  pub listed_at : (n i : ℕ) (d : A) → i < n → get_or (listed n at) i d ≡ at i
  unfolding listed
  listed_at zero i d h = absurd (not-suc-le-zero h)
  listed_at (suc n) i d h =
      ⊎_elim
      (λ e. get_or_at (listed n at) (at n) [] d i (listed_long n ∙ sym e) ∙ ap at (sym e))
      (λ l. get_or-append (listed n at) (at n ∷ []) d i (omega (arith, listed_long n)) ∙ listed_at n i d l)
      (eq-or-lt_of_le (le_of_suc-le-suc h))

  pub listed_more : (f : ℕ) (out : List A) (x : A) → f < length out → x ≡ at f → take f out ≡ listed f at → take (f + 1) (set out f x) ≡ listed (f + 1) at
  unfolding listed
  listed_more f out x h ex e = rw (add-one, take-suc-set, e, ex)

  pub listed_done : (n : ℕ) (out : List A) → length out ≡ n → take n out ≡ listed n at → out ≡ listed n at
  listed_done n out l e = sym (take_all n out (omega arith)) ∙ e
