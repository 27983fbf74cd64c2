-- Digits written from the last to the first, and how many a number has. Assumes nothing.
use Rattle.std.specs.Prelude.{if◌then◌else◌}
use Prim.Native.Nat.{ℕ, zero, suc, ◌+◌, ◌-◌, ◌*◌, ◌/◌, ◌%◌, ◌^◌, ◌≤◌, ◌<◌}
use mathlib.Core.Path.{◌≡◌, refl, sym, ap, ap₂, ◌∙◌, subst}
use mathlib.Core.Bool.{Bool, true, false}
use mathlib.Core.List.{List, [], ◌∷◌, ◌++◌}
use native.Mathlib.Nat.{div-lt_self, div-lt_iff_lt-mul, mod-lt, pow-suc, pow-zero}
use native.Mathlib.Omega.{arith}
use borrow.Author.Tests.{lt-ltb, le-ltb, ltb-true, ltb-false}
use lib.Dec.{ltb}
use lib.ListN.{length, set, length-append, length-set}
use lib.Seq.{sets, sets-eq, set_comm}
use Rattle.text.specs.Text.{digit, fixed, short, decimal}
use Rattle.text.proofs.Text.{fixed_long, short_one, short_more}
use Rattle.answers.specs.Put.{Put}

pub low_digit : (v : ℕ) → v < 10 → 0x30 + v ≡ digit v
unfolding digit
low_digit v h = sym (rw (lt-ltb v 10 h))

pub high_digit : (v : ℕ) → 10 ≤ v → 0x37 + v ≡ digit v
unfolding digit
high_digit v h = sym (rw (le-ltb v 10 h))

-- ---- from the last to the first

fixed_more : (base n v : ℕ) → fixed base (suc n) v ≡ fixed base n (v / base) ++ (digit (v % base) ∷ [])
unfolding fixed
fixed_more base n v = refl

one_fixed : (v : ℕ) → fixed 10 1 v ≡ digit (v % 10) ∷ []
unfolding fixed
one_fixed v = refl

none_short : (v : ℕ) → fixed 10 (length (short 10 0 v)) v ≡ short 10 0 v
unfolding fixed short
none_short v = refl

no_digits : (base k rest : ℕ) (out : List ℕ) (at : ℕ) → k ≡ 0 → out ≡ sets out at (fixed base k rest)
unfolding fixed
no_digits base k rest out at z = ap (λ (n : ℕ). sets out at (fixed base n rest)) (sym z)

-- the last byte may be written first
last_first : (l : List ℕ) (at : ℕ) (xs : List ℕ) (x : ℕ) → sets l at (xs ++ (x ∷ [])) ≡ sets (set l (at + length xs) x) at xs
last_first l at [] x = let z : at + 0 ≡ at = omega arith in ap (λ (n : ℕ). set l n x) (sym z)
last_first l at (y ∷ ys) x =
    let e : suc at + length ys ≡ at + suc (length ys) = omega arith in
    last_first (set l at y) (suc at) ys x
    ∙ ap (λ (n : ℕ). sets (set (set l at y) n x) (suc at) ys) e
    ∙ ap (λ (m : List ℕ). sets m (suc at) ys) (set_comm l at (at + suc (length ys)) y x (λ (q : at ≡ at + suc (length ys)). omega arith))

-- the digits behind a place were written: with those of the rest in front of them, the buffer is as it will be
pub record Begun (before : List ℕ) (at base count value : ℕ) (out : List ℕ) (rest k : ℕ) : Type 0 where
  pub few : k ≤ count
  pub same_length : length out ≡ length before
  pub digits : sets out at (fixed base k rest) ≡ sets before at (fixed base count value)

pub none_begun : (b : List ℕ) (at base count value : ℕ) → Begun b at base count value b value count
none_begun b at base count value = record { few = omega arith; same_length = refl; digits = refl }

module _ {before : List ℕ} {at base count value : ℕ} {out : List ℕ} {rest k : ℕ} (w : Begun before at base count value out rest k) where
  pub digit_small : 1 ≤ base → base ≤ 16 → rest % base < 16
  digit_small one most = let h : rest % base < base = mod-lt rest one in omega arith

  pub digit_fits : 0 < k → at + count ≤ length before → at + (k - 1) < length out
  digit_fits h room = omega (arith, w.few, w.same_length)

  pub one_more : 0 < k → Begun before at base count value (set out (at + (k - 1)) (digit (rest % base))) (rest / base) (k - 1)
  one_more h =
      let e : k ≡ suc (k - 1) = omega arith in
      record {
        few = omega (arith, w.few);
        same_length = length-set out (at + (k - 1)) (digit (rest % base)) ∙ w.same_length;
        digits =
            ap (λ (n : ℕ). sets (set out (at + n) (digit (rest % base))) at (fixed base (k - 1) (rest / base))) (sym (fixed_long base (k - 1) (rest / base)))
            ∙ sym (last_first out at (fixed base (k - 1) (rest / base)) (digit (rest % base)))
            ∙ ap (sets out at) (sym (fixed_more base (k - 1) rest))
            ∙ ap (λ (n : ℕ). sets out at (fixed base n rest)) (sym e)
            ∙ w.digits;
      }

  pub all_digits : k ≤ 0 → at + count ≤ length before → Put before at (fixed base count value) (at + count) out
  all_digits h room =
      let z : k ≡ 0 = omega arith in
      let long : length (fixed base count value) ≡ count = fixed_long base count value in
      record {
        ends = ap (λ (n : ℕ). at + n) (sym long);
        holds = no_digits base k rest out at z ∙ w.digits ∙ sets-eq (fixed base count value) before at (omega arith);
      }

-- ---- how many digits

-- enough room for digits is enough
enough : (j k v : ℕ) → v < j → v < k → short 10 j v ≡ short 10 k v
enough zero k v h l = absurd (omega arith)
enough (suc j) zero v h l = absurd (omega arith)
enough (suc j) (suc k) v h l = by (ltb v 10) refl (enough j k (v / 10))
  where
    by : (g : Bool) → ltb v 10 ≡ g → (v / 10 < j → v / 10 < k → short 10 j (v / 10) ≡ short 10 k (v / 10)) → short 10 (suc j) v ≡ short 10 (suc k) v
    by true q ih = let low : v < 10 = ltb-true v 10 q in short_one 10 (omega arith) (omega arith) j v low ∙ sym (short_one 10 (omega arith) (omega arith) k v low)
    by false q ih =
        let high : 10 ≤ v = ltb-false v 10 q in
        let less : v / 10 < v = omega arith in
        short_more 10 (omega arith) (omega arith) j v high
        ∙ ap (λ (l : List ℕ). l ++ (digit (v % 10) ∷ [])) (ih (omega arith) (omega arith))
        ∙ sym (short_more 10 (omega arith) (omega arith) k v high)

decimal_one : (v : ℕ) → v < 10 → decimal v ≡ digit v ∷ []
unfolding decimal
decimal_one v h = short_one 10 (omega arith) (omega arith) v v h

decimal_more : (v : ℕ) → 10 ≤ v → decimal v ≡ decimal (v / 10) ++ (digit (v % 10) ∷ [])
unfolding decimal
decimal_more v h =
    short_more 10 (omega arith) (omega arith) v v h
    ∙ ap (λ (l : List ℕ). l ++ (digit (v % 10) ∷ [])) (enough v (suc (v / 10)) (v / 10) (omega arith) (omega arith))

pub one_digit : (v : ℕ) → v < 10 → length (decimal v) ≡ 1
one_digit v h = ap length (decimal_one v h)

pub more_digits : (v : ℕ) → 10 ≤ v → length (decimal v) ≡ length (decimal (v / 10)) + 1
more_digits v h = ap length (decimal_more v h) ∙ length-append (decimal (v / 10)) (digit (v % 10) ∷ [])

-- a number below 10 to a power has no more digits than that
pub few_digits : (k v : ℕ) → v < 10 ^ suc k → length (decimal v) ≤ suc k
few_digits zero v h = omega (arith, one_digit v (omega (arith, pow-suc 10 0, pow-zero 10)))
few_digits (suc k) v h = by (ltb v 10) refl (few_digits k (v / 10))
  where
    by : (g : Bool) → ltb v 10 ≡ g → (v / 10 < 10 ^ suc k → length (decimal (v / 10)) ≤ suc k) → length (decimal v) ≤ suc (suc k)
    by true q ih = omega (arith, one_digit v (ltb-true v 10 q))
    by false q ih =
        let less : v / 10 < 10 ^ suc k = (div-lt_iff_lt-mul {k = 10} {x = v} {y = 10 ^ suc k} (omega arith)).1 (rw (pow-suc 10 (suc k)) at h) in
        omega (arith, more_digits v (ltb-false v 10 q), ih less)

-- a number in decimal is so many digits
pub decimal_fixed : (v : ℕ) → fixed 10 (length (decimal v)) v ≡ decimal v
unfolding decimal
decimal_fixed v = by (suc v) v
  where
    small : (k v : ℕ) → v < 10 → fixed 10 (length (short 10 (suc k) v)) v ≡ short 10 (suc k) v
    small k v h =
        let e : short 10 (suc k) v ≡ digit v ∷ [] = short_one 10 (omega arith) (omega arith) k v h in
        let m : v % 10 ≡ v = omega arith in
        ap (λ (l : List ℕ). fixed 10 (length l) v) e ∙ one_fixed v ∙ ap (λ (n : ℕ). digit n ∷ []) m ∙ sym e

    step : (k v : ℕ) → 10 ≤ v → fixed 10 (length (short 10 k (v / 10))) (v / 10) ≡ short 10 k (v / 10) → fixed 10 (length (short 10 (suc k) v)) v ≡ short 10 (suc k) v
    step k v h ih =
        let e : short 10 (suc k) v ≡ short 10 k (v / 10) ++ (digit (v % 10) ∷ []) = short_more 10 (omega arith) (omega arith) k v h in
        let n : length (short 10 (suc k) v) ≡ suc (length (short 10 k (v / 10))) = ap length e ∙ length-append (short 10 k (v / 10)) (digit (v % 10) ∷ []) ∙ omega arith in
        ap (λ (n : ℕ). fixed 10 n v) n ∙ fixed_more 10 (length (short 10 k (v / 10))) v ∙ ap (λ (l : List ℕ). l ++ (digit (v % 10) ∷ [])) ih ∙ sym e

    test : (k v : ℕ) (g : Bool) → ltb v 10 ≡ g → fixed 10 (length (short 10 k (v / 10))) (v / 10) ≡ short 10 k (v / 10) → fixed 10 (length (short 10 (suc k) v)) v ≡ short 10 (suc k) v
    test k v true q ih = small k v (ltb-true v 10 q)
    test k v false q ih = step k v (ltb-false v 10 q) ih

    by : (k v : ℕ) → fixed 10 (length (short 10 k v)) v ≡ short 10 k v
    by zero v = none_short v
    by (suc k) v = test k v (ltb v 10) refl (by k (v / 10))
