-- The decimals of a start. Assumes nothing.
use Rattle.std.specs.Prelude.{if◌then◌else◌, Some, None}
use Prim.Native.Nat.{ℕ, zero, suc, ◌+◌, ◌-◌, ◌*◌, ◌^◌, ◌≤◌, ◌<◌}
use mathlib.Core.Path.{◌≡◌, refl, sym, ◌∙◌}
use mathlib.Core.Bool.{Bool, true, false, ◌&&◌}
use mathlib.Core.List.{List}
use mathlib.Core.Option.{Option, none, some, map}
use native.Mathlib.Nat.{mul-le-mul_left}
use native.Mathlib.Omega.{arith}
use borrow.Author.Tests.{eq-eqb, ne_eqb, eqb-false}
use lib.Dec.{eqb, leb, leb→le}
use lib.ListN.{length}
use Rattle.codec.proofs.Tests.{left, right, true_T}
use Rattle.text.specs.Text.{value_of}
use Rattle.text_reader.specs.Reading.{valued, near_value}
use Rattle.text_reader.proofs.Digits.{near_is, NearNumber, number_missing, below_power}
use Rattle.start_time.specs.Start.{most_decimals, unit_of, decimals_in}

abbrev Not : ℕ → ℕ → Type 0
Not n k = n ≡ k → ⊥

-- one to six decimals have a unit, of at most 100,000
pub record Few (n : ℕ) : Type 0 where
  pub one : 1 ≤ n
  pub six : n ≤ most_decimals

none_left : (n : ℕ) → Not n 1 → Not n 2 → Not n 3 → Not n 4 → Not n 5 → Not n 6 → 1 ≤ n → n ≤ most_decimals → ⊥
none_left n a b c d e f lo hi = omega arith

pub unit_none : (n : ℕ) → Not n 1 → Not n 2 → Not n 3 → Not n 4 → Not n 5 → Not n 6 → 0 ≡ unit_of n
unfolding unit_of
unit_none n a b c d e f = by (leb 1 n && leb n most_decimals) refl
  where
    by : (g : Bool) → (leb 1 n && leb n most_decimals) ≡ g → 0 ≡ (if g then 10 ^ (most_decimals - n) else 0)
    by true q =
        absurd
        (none_left n a b c d e f (leb→le 1 n (left (leb 1 n) (leb n most_decimals) (true_T _ q)))
        (leb→le n most_decimals (right (leb 1 n) (leb n most_decimals) (true_T _ q))))
    by false q = refl

pub unit_few : (n : ℕ) → 1 ≤ unit_of n → Few n
unfolding unit_of
unit_few n = by (leb 1 n && leb n most_decimals) refl
  where
    by : (g : Bool) → (leb 1 n && leb n most_decimals) ≡ g → 1 ≤ (if g then 10 ^ (most_decimals - n) else 0) → Few n
    by true q h = record { one = leb→le 1 n (left (leb 1 n) (leb n most_decimals) (true_T _ q)); six = leb→le n most_decimals (right (leb 1 n) (leb n most_decimals) (true_T _ q)) }
    by false q h = absurd (omega arith)

-- a table of six
module _ (P : ℕ → Type 0) (a : P 1) (b : P 2) (c : P 3) (d : P 4) (e : P 5) (f : P 6) where
  pub of_six : (n : ℕ) → Few n → P n
  of_six zero h = absurd (omega (arith, h.one))
  of_six (suc zero) h = a
  of_six (suc (suc zero)) h = b
  of_six (suc (suc (suc zero))) h = c
  of_six (suc (suc (suc (suc zero)))) h = d
  of_six (suc (suc (suc (suc (suc zero))))) h = e
  of_six (suc (suc (suc (suc (suc (suc zero)))))) h = f
  of_six (suc (suc (suc (suc (suc (suc (suc n))))))) h = absurd (omega (arith, h.six))

pub unit_most : (n : ℕ) → Few n → unit_of n ≤ 100_000
unfolding unit_of
unit_most = of_six (λ n. unit_of n ≤ 100_000) (omega arith) (omega arith) (omega arith) (omega arith) (omega arith) (omega arith)

power_most : (n : ℕ) → Few n → (0 + 1) * 10 ^ n ≤ 1_000_000
power_most = of_six (λ n. (0 + 1) * 10 ^ n ≤ 1_000_000) (omega arith) (omega arith) (omega arith) (omega arith) (omega arith) (omega arith)

-- ---- the decimals of a text

module _ (l : List ℕ) where
  pub no_unit : unit_of (length l) < 1 → None ≡ valued (decimals_in l)
  unfolding decimals_in valued
  no_unit h = rw (eq-eqb (unit_of (length l)) 0 (omega arith))

  module _ (h : 1 ≤ unit_of (length l)) where
    there : eqb (unit_of (length l)) 0 ≡ false
    there = ne_eqb (unit_of (length l)) 0 (λ e. omega arith)

    pub bad_decimals : None ≡ near_value 10 l → None ≡ valued (decimals_in l)
    unfolding decimals_in valued
    bad_decimals e = rw (there, number_missing 10 l e)

    pub good_decimals : (v : ℕ) → NearNumber 10 l v → Some (v * unit_of (length l)) ≡ valued (decimals_in l)
    unfolding decimals_in valued
    good_decimals v k =
        let small : k.exact < 1_000_000 = omega (arith, below_power 10 0 l k.exact k.is, power_most (length l) (unit_few (length l) h)) in
        let same : k.exact ≡ v = sym (near_is k.exact (omega arith)) ∙ k.nears in
        rw (there, k.is, same)

-- so few decimals are no large number
pub decimals_most : (l : List ℕ) (m : ℕ) → decimals_in l ≡ some m → m < 1_000_000_000_000
unfolding decimals_in
decimals_most l m = by (eqb (unit_of (length l)) 0) refl
  where
    few : eqb (unit_of (length l)) 0 ≡ false → Few (length l)
    few q = unit_few (length l) (omega (arith, eqb-false (unit_of (length l)) 0 q))

    value : (o : Option ℕ) → value_of 10 0 l ≡ o → Few (length l) → map (◌* unit_of (length l)) o ≡ some m → m < 1_000_000_000_000
    value none q f e = let z : ◌≡◌ {A = ℕ} 0 1 = cc in absurd (omega arith)
    value (some v) q f e =
        let same : v * unit_of (length l) ≡ m = cc in
        let small : v < 1_000_000 = omega (arith, below_power 10 0 l v q, power_most (length l) f) in
        let a : v * unit_of (length l) ≤ v * 100_000 = mul-le-mul_left v (unit_most (length l) f) in
        omega arith

    by : (g : Bool) → eqb (unit_of (length l)) 0 ≡ g → (if g then none else map (◌* unit_of (length l)) (value_of 10 0 l)) ≡ some m → m < 1_000_000_000_000
    by true q e = let z : ◌≡◌ {A = ℕ} 0 1 = cc in absurd (omega arith)
    by false q e = value (value_of 10 0 l) refl (few q) e
