-- Data of two digits a byte. Assumes nothing.
use Rattle.std.specs.Prelude.{if◌then◌else◌}
use Prim.Native.Nat.{ℕ, zero, suc, ◌+◌, ◌*◌, ◌%◌, ◌≤◌, ◌<◌}
use mathlib.Core.Path.{◌≡◌, refl, sym, ap, ◌∙◌}
use mathlib.Core.Logic.{◌⊎◌, inl, inr, ⊎_elim}
use mathlib.Core.Bool.{Bool, true, false}
use mathlib.Core.List.{List, [], ◌∷◌}
use mathlib.Core.Option.{Option, none, some, map, bind}
use native.Mathlib.Omega.{arith}
use borrow.Author.Tests.{le-leb, lt-leb, ltb-true, ltb-false}
use lib.Dec.{leb, ltb}
use lib.ListN.{length, get_or}
use Rattle.machine.specs.Limits.{most_bytes}
use Rattle.text.specs.Text.{digit_in, below, value_of}
use Rattle.text_reader.specs.Reading.{digit_of}
use Rattle.text_reader.proofs.Digits.{digit_taken, digit_refused}
use Rattle.candump.specs.Line.{only, data_in, few_in}
use Rattle.log_reader.specs.Reading.{data_of, data_good}

lt_or_ge : (a b : ℕ) → (a < b) ⊎ (b ≤ a)
lt_or_ge a b = by (ltb a b) refl
  where
    by : (g : Bool) → ltb a b ≡ g → (a < b) ⊎ (b ≤ a)
    by true e = inl (ltb-true a b e)
    by false e = inr (ltb-false a b e)

-- ---- a byte

first_bad : (x y : ℕ) → 16 ≤ digit_of x → value_of 16 0 (x ∷ y ∷ []) ≡ none
unfolding value_of bind
first_bad x y h = rw (digit_refused x 16 (omega arith) h)

second_bad : (x y : ℕ) → 16 ≤ digit_of y → value_of 16 0 (x ∷ y ∷ []) ≡ none
unfolding value_of bind
second_bad x y h = by (bind (digit_in x) (below 16))
  where
    by : (o : Option ℕ) → bind o (λ v. value_of 16 (0 * 16 + v) (y ∷ [])) ≡ none
    by none = refl
    by (some v) = rw (digit_refused y 16 (omega arith) h)

both_good : (x y : ℕ) → digit_of x < 16 → digit_of y < 16 → value_of 16 0 (x ∷ y ∷ []) ≡ some (digit_of x * 16 + digit_of y)
unfolding value_of bind
both_good x y h k = rw (digit_taken x 16 (omega arith) h, digit_taken y 16 (omega arith) k) (ap some (omega arith))

-- ---- all of them

pub none_before : (o : Option ℕ) (r : Option (List ℕ)) → r ≡ none → bind o (λ b. map (b ∷◌) r) ≡ none
unfolding bind
none_before none r e = refl
none_before (some b) r e = ap (map (b ∷◌)) e

pub bad_digit : (l : List ℕ) (i : ℕ) → i < length l → 16 ≤ digit_of (get_or l i 0) → data_in l ≡ none
unfolding data_in bind
bad_digit [] i h b = absurd (omega arith)
bad_digit (x ∷ []) i h b = refl
bad_digit (x ∷ y ∷ l) zero h b = ap (λ (o : Option ℕ). bind o (λ b. map (b ∷◌) (data_in l))) (first_bad x y b)
bad_digit (x ∷ y ∷ l) (suc zero) h b = ap (λ (o : Option ℕ). bind o (λ b. map (b ∷◌) (data_in l))) (second_bad x y b)
bad_digit (x ∷ y ∷ l) (suc (suc i)) h b = none_before (value_of 16 0 (x ∷ y ∷ [])) (data_in l) (bad_digit l i (omega arith) b)

half_byte : (l : List ℕ) → length l % 2 ≡ 1 → data_in l ≡ none
unfolding data_in
half_byte [] h = absurd (omega arith)
half_byte (x ∷ []) h = refl
half_byte (x ∷ y ∷ l) h = none_before (value_of 16 0 (x ∷ y ∷ [])) (data_in l) (half_byte l (omega arith))

pub data_size : (l b : List ℕ) → data_in l ≡ some b → length l ≡ 2 * length b
unfolding data_in bind
data_size [] b e = let is : [] ≡ b = cc in omega (arith, ap length is)
data_size (x ∷ []) b e = let z : ◌≡◌ {A = ℕ} 0 1 = cc in absurd (omega arith)
data_size (x ∷ y ∷ l) b e = by (value_of 16 0 (x ∷ y ∷ [])) (data_in l) refl (data_size l) e
  where
    by : (o : Option ℕ) (r : Option (List ℕ)) → data_in l ≡ r → ((m : List ℕ) → data_in l ≡ some m → length l ≡ 2 * length m) → bind o (λ v. map (v ∷◌) r) ≡ some b → suc (suc (length l)) ≡ 2 * length b
    by none r q ih e = let z : ◌≡◌ {A = ℕ} 0 1 = cc in absurd (omega arith)
    by (some v) none q ih e = let z : ◌≡◌ {A = ℕ} 0 1 = cc in absurd (omega arith)
    by (some v) (some m) q ih e = let is : v ∷ m ≡ b = cc in omega (arith, ap length is, ih m q)

all_digits : (l : List ℕ) → length l % 2 ≡ 0 → ((i : ℕ) → i < length l → 16 ≤ digit_of (get_or l i 0) → ⊥) → data_in l ≡ some (data_of l)
unfolding data_in data_of bind
all_digits [] h d = refl
all_digits (x ∷ []) h d = absurd (omega arith)
all_digits (x ∷ y ∷ l) h d =
    rw (both_good x y (low (digit_of x) (d 0 (omega arith))) (low (digit_of y) (d 1 (omega arith))), all_digits l (omega arith) (λ i k b. d (suc (suc i)) (omega arith) b))
  where
    low : (n : ℕ) → (16 ≤ n → ⊥) → n < 16
    low n k = ⊎_elim (λ (a : n < 16). a) (λ (a : 16 ≤ n). absurd (k a)) (lt_or_ge n 16)

-- ---- at most eight bytes

module _ (l : List ℕ) where
  refuse : data_in l ≡ none → data_good false l ≡ few_in l
  unfolding data_good few_in bind
  refuse e = sym (ap (λ (o : Option (List ℕ)). bind o (λ b. only (leb (length b) most_bytes) b)) e)

  pub too_many : 16 < length l → data_good false l ≡ few_in l
  unfolding data_good few_in bind only
  too_many h = sym (by (data_in l) refl)
    where
      by : (o : Option (List ℕ)) → data_in l ≡ o → bind o (λ b. only (leb (length b) most_bytes) b) ≡ none
      by none q = refl
      by (some b) q = rw (lt-leb (length b) most_bytes (omega (arith, data_size l b q)))

  pub odd_digits : length l % 2 ≡ 1 → data_good false l ≡ few_in l
  odd_digits h = refuse (half_byte l h)

  pub no_digit : (i : ℕ) → i < length l → 16 ≤ digit_of (get_or l i 0) → data_good false l ≡ few_in l
  no_digit i h b = refuse (bad_digit l i h b)

  pub all_good : length l ≤ 16 → (length l % 2 ≡ 1 → ⊥) → ((i : ℕ) → i < length l → 16 ≤ digit_of (get_or l i 0) → ⊥) → data_good true l ≡ few_in l
  unfolding data_good few_in bind only
  all_good few even d =
      let is : data_in l ≡ some (data_of l) = all_digits l (zero_left (length l) even) d in
      sym (rw (is, le-leb (length (data_of l)) most_bytes (omega (arith, data_size l (data_of l) is))))
    where
      zero_left : (n : ℕ) → (n % 2 ≡ 1 → ⊥) → n % 2 ≡ 0
      zero_left n k = ⊎_elim (λ (a : n % 2 < 1). omega arith) (λ (a : 1 ≤ n % 2). absurd (k (omega arith))) (lt_or_ge (n % 2) 1)
