-- Numbers written as text are read back. Assumes nothing.
use Rattle.std.specs.Prelude.{if◌then◌else◌}
use Prim.Native.Nat.{ℕ, zero, suc, ◌+◌, ◌-◌, ◌*◌, ◌/◌, ◌%◌, ◌^◌, ◌≤◌, ◌<◌}
use mathlib.Core.Path.{◌≡◌, refl, sym, ap, ◌∙◌}
use mathlib.Core.Bool.{Bool, true, false, ◌&&◌}
use mathlib.Core.List.{List, [], ◌∷◌, ◌++◌, append_assoc, append-nil}
use mathlib.Core.Option.{Option, none, some, bind}
use native.Mathlib.Nat.{pow-suc, pow-zero, mul-one, add-mul, mul_assoc, div-add-mod', div-lt_iff_lt-mul, div-lt_self, mod-lt}
use native.Mathlib.Omega.{arith}
use borrow.Author.Tests.{le-leb, lt-leb, lt-ltb, le-ltb, ltb-true, ltb-false}
use lib.Dec.{leb, ltb, T, le→leb}
use lib.ListN.{length, length-append}
use Rattle.codec.specs.Plain.{all}
use Rattle.codec.proofs.Lists.{all_append}
use Rattle.codec.proofs.Tests.{join}
use Rattle.text.specs.Text.{digit, digit_in, below, fixed, short, decimal, value_of, number_of}

-- ---- a digit

digit_low : (r : ℕ) → r < 10 → digit r ≡ 0x30 + r
unfolding digit
digit_low r h = rw (lt-ltb r 10 h)

digit_high : (r : ℕ) → 10 ≤ r → digit r ≡ 0x37 + r
unfolding digit
digit_high r h = rw (le-ltb r 10 h)

-- a digit that was written is read back
pub digit_back : (base r : ℕ) → r < base → base ≤ 16 → bind (digit_in (digit r)) (below base) ≡ some r
unfolding digit_in below bind
digit_back base r h k = by (ltb r 10) refl
  where
    by : (g : Bool) → ltb r 10 ≡ g → bind (digit_in (digit r)) (below base) ≡ some r
    by true q =
        let low : r < 10 = ltb-true r 10 q in
        let back : 0x30 + r - 0x30 ≡ r = omega arith in
        rw (digit_low r low, le-leb 0x30 (0x30 + r) (omega arith), le-leb (0x30 + r) 0x39 (omega arith), back, lt-ltb r base h)
    by false q =
        let high : 10 ≤ r = ltb-false r 10 q in
        let back : 0x37 + r - 0x37 ≡ r = omega arith in
        rw (digit_high r high, le-leb 0x30 (0x37 + r) (omega arith), lt-leb (0x37 + r) 0x39 (omega arith), le-leb 0x41 (0x37 + r) (omega arith), le-leb (0x37 + r) 0x46 (omega arith), back, lt-ltb r base h)

-- it is 0x30 or more
pub digit_least : (r : ℕ) → 0x30 ≤ digit r
digit_least r = by (ltb r 10) refl
  where
    by : (g : Bool) → ltb r 10 ≡ g → 0x30 ≤ digit r
    by true q = omega (arith, digit_low r (ltb-true r 10 q))
    by false q = omega (arith, digit_high r (ltb-false r 10 q))

module _ (base : ℕ) (two : 2 ≤ base) (most : base ≤ 16) where
  -- one digit more
  value_more : (high v : ℕ) (rest : List ℕ) → value_of base high (digit (v % base) ∷ rest) ≡ value_of base (high * base + v % base) rest
  unfolding value_of bind
  value_more high v rest = let small : v % base < base = mod-lt v (omega arith) in rw (digit_back base (v % base) small most)

  value_one : (high v : ℕ) (rest : List ℕ) → v < base → value_of base high (digit v ∷ rest) ≡ value_of base (high * base + v) rest
  unfolding value_of bind
  value_one high v rest small = rw (digit_back base v small most)

  -- ---- so many digits

  pub fixed_then : (k v high : ℕ) (rest : List ℕ) → v < base ^ k → value_of base high (fixed base k v ++ rest) ≡ value_of base (high * base ^ k + v) rest
  unfolding fixed
  fixed_then zero v high rest h = let e : high ≡ high * base ^ 0 + v = rw (pow-zero base, mul-one high) (omega (arith, pow-zero base)) in ap (λ (n : ℕ). value_of base n rest) e
  fixed_then (suc k) v high rest h =
      let pos : 0 < base = omega arith in
      let few : v / base < base ^ k = (div-lt_iff_lt-mul {k = base} {x = v} {y = base ^ k} pos).1 (rw (pow-suc base k) at h) in
      let e : (high * base ^ k + v / base) * base + v % base ≡ high * base ^ suc k + v
      = rw (pow-suc base k, add-mul (high * base ^ k) (v / base) base, mul_assoc high (base ^ k) base) (omega (arith, div-add-mod' v base)) in
      ap (value_of base high) (append_assoc (fixed base k (v / base)) (digit (v % base) ∷ []) rest)
      ∙ fixed_then k (v / base) high (digit (v % base) ∷ rest) few
      ∙ value_more (high * base ^ k + v / base) v rest
      ∙ ap (λ (n : ℕ). value_of base n rest) e

  -- ---- without leading zeros

  pub short_one : (k v : ℕ) → v < base → short base (suc k) v ≡ digit v ∷ []
  unfolding short
  short_one k v h = rw (lt-ltb v base h)

  pub short_more : (k v : ℕ) → base ≤ v → short base (suc k) v ≡ short base k (v / base) ++ (digit (v % base) ∷ [])
  unfolding short
  short_more k v h = rw (le-ltb v base h)

  pub short_then : (k v : ℕ) (rest : List ℕ) → v < k → value_of base 0 (short base k v ++ rest) ≡ value_of base v rest
  short_then zero v rest h = absurd (omega arith)
  short_then (suc k) v rest h = by (ltb v base) refl (λ (more : List ℕ) (l : v / base < k). short_then k (v / base) more l)
    where
      deeper : base ≤ v → v / base < k
      deeper q = let l : v / base < v = div-lt_self {n = v} {k = base} (omega arith) (omega arith) in omega arith

      by : (g : Bool) → ltb v base ≡ g → ((more : List ℕ) → v / base < k → value_of base 0 (short base k (v / base) ++ more) ≡ value_of base (v / base) more)
          → value_of base 0 (short base (suc k) v ++ rest) ≡ value_of base v rest
      by true q ih =
          let low : v < base = ltb-true v base q in
          let e : 0 * base + v ≡ v = omega arith in
          ap (λ (l : List ℕ). value_of base 0 (l ++ rest)) (short_one k v low) ∙ value_one 0 v rest low ∙ ap (λ (n : ℕ). value_of base n rest) e
      by false q ih =
          let high : base ≤ v = ltb-false v base q in
          ap (λ (l : List ℕ). value_of base 0 (l ++ rest)) (short_more k v high)
          ∙ ap (value_of base 0) (append_assoc (short base k (v / base)) (digit (v % base) ∷ []) rest)
          ∙ ih (digit (v % base) ∷ rest) (deeper high)
          ∙ value_more (v / base) v rest
          ∙ ap (λ (n : ℕ). value_of base n rest) (div-add-mod' v base)

-- ---- THE ROUND TRIPS

pub fixed_back : (base k v : ℕ) → 2 ≤ base → base ≤ 16 → v < base ^ k → value_of base 0 (fixed base k v) ≡ some v
unfolding value_of
fixed_back base k v two most h =
    let e : 0 * base ^ k + v ≡ v = omega arith in
    ap (value_of base 0) (sym (append-nil (fixed base k v))) ∙ fixed_then base two most k v 0 [] h ∙ ap some e

-- a text that is there is read as all its digits
pub number_some : (base : ℕ) (l : List ℕ) → 0 < length l → number_of base l ≡ value_of base 0 l
unfolding number_of
number_some base [] h = absurd (omega arith)
number_some base (c ∷ cs) h = refl

short_long : (base k v : ℕ) → 0 < length (short base (suc k) v)
unfolding short
short_long base k v = by (ltb v base)
  where
    by : (g : Bool) → 0 < length (if g then digit v ∷ [] else (short base k (v / base) ++ (digit (v % base) ∷ [])))
    by true = omega arith
    by false = omega (arith, length-append (short base k (v / base)) (digit (v % base) ∷ []))

pub decimal_back : (v : ℕ) → number_of 10 (decimal v) ≡ some v
unfolding decimal value_of
decimal_back v =
    number_some 10 (short 10 (suc v) v) (short_long 10 v v)
    ∙ ap (value_of 10 0) (sym (append-nil (short 10 (suc v) v)))
    ∙ short_then 10 (omega arith) (omega arith) (suc v) v [] (omega arith)

-- ---- what the texts are made of

pub fixed_long : (base k v : ℕ) → length (fixed base k v) ≡ k
unfolding fixed
fixed_long base zero v = refl
fixed_long base (suc k) v = omega (arith, length-append (fixed base k (v / base)) (digit (v % base) ∷ []), fixed_long base k (v / base))

module _ (m : ℕ) (h : m ≤ 0x30) where
  least_one : (r : ℕ) → T (all (leb m) (digit r ∷ []))
  least_one r = join (leb m (digit r)) true (le→leb m (digit r) (omega (arith, digit_least r))) tt

  pub fixed_least : (base k v : ℕ) → T (all (leb m) (fixed base k v))
  unfolding fixed
  fixed_least base zero v = tt
  fixed_least base (suc k) v = all_append (leb m) (fixed base k (v / base)) (digit (v % base) ∷ []) (fixed_least base k (v / base)) (least_one (v % base))

  pub short_least : (base k v : ℕ) → T (all (leb m) (short base k v))
  unfolding short
  short_least base zero v = tt
  short_least base (suc k) v = by (ltb v base) (short_least base k (v / base))
    where
      by : (g : Bool) → T (all (leb m) (short base k (v / base))) → T (all (leb m) (if g then digit v ∷ [] else (short base k (v / base) ++ (digit (v % base) ∷ []))))
      by true ih = least_one v
      by false ih = all_append (leb m) (short base k (v / base)) (digit (v % base) ∷ []) ih (least_one (v % base))
