-- The value of a digit and the number of some digits, as the readers find them. Assumes nothing.
use Rattle.std.specs.Prelude.{if◌then◌else◌, Some, None}
use Rattle.std.specs.Prelude as std
use Prim.Native.Nat.{ℕ, zero, suc, ◌+◌, ◌-◌, ◌*◌, ◌^◌, ◌≤◌, ◌<◌}
use mathlib.Core.Path.{◌≡◌, refl, sym, ap, ◌∙◌}
use mathlib.Core.Bool.{Bool, true, false, ◌&&◌}
use mathlib.Core.List.{List, [], ◌∷◌}
use mathlib.Core.Option.{Option, none, some, map, bind}
use native.Mathlib.Nat.{mul-le-mul_left, mul-le-mul_right, mul-one, one-mul, mul_comm, mul_assoc, add-mul, pow-suc, pow-zero}
use native.Mathlib.Numerals.{add-one}
use native.Mathlib.Omega.{arith}
use borrow.Author.Tests.{le-leb, lt-leb, leb-true, leb-false, lt-ltb, le-ltb, ltb-true, ltb-false}
use lib.Dec.{leb, ltb, leb→le}
use lib.ListN.{length, get_or, drop, drop_of_length-le}
use lib.Seq.{drop-cons}
use Rattle.codec.proofs.Tests.{left, right, true_T}
use Rattle.text.specs.Text.{digit_in, below, value_of}
use Rattle.text_reader.specs.Reading.{no_digit, or_none, digit_of, far, near, valued, near_value}

-- ---- a digit

-- a byte between two others
pub low_end : (a b c : ℕ) → (leb a c && leb c b) ≡ true → a ≤ c
low_end a b c e = leb→le a c (left (leb a c) (leb c b) (true_T _ e))

pub high_end : (a b c : ℕ) → (leb a c && leb c b) ≡ true → c ≤ b
high_end a b c e = leb→le c b (right (leb a c) (leb c b) (true_T _ e))

module _ (c : ℕ) where
  pub decimal_digit : (leb 0x30 c && leb c 0x39) ≡ true → Some (c - 0x30) ≡ valued (digit_in c)
  unfolding valued digit_in
  decimal_digit e = rw e

  pub upper_digit : (leb 0x30 c && leb c 0x39) ≡ false → (leb 0x41 c && leb c 0x46) ≡ true → Some (c - 0x37) ≡ valued (digit_in c)
  unfolding valued digit_in
  upper_digit e f = rw (e, f)

  pub lower_digit : (leb 0x30 c && leb c 0x39) ≡ false → (leb 0x41 c && leb c 0x46) ≡ false → (leb 0x61 c && leb c 0x66) ≡ true → Some (c - 0x57) ≡ valued (digit_in c)
  unfolding valued digit_in
  lower_digit e f g = rw (e, f, g)

  pub not_a_digit : (leb 0x30 c && leb c 0x39) ≡ false → (leb 0x41 c && leb c 0x46) ≡ false → (leb 0x61 c && leb c 0x66) ≡ false → None ≡ valued (digit_in c)
  unfolding valued digit_in
  not_a_digit e f g = rw (e, f, g)

  -- what the reader of a digit says
  pub digit_is : (v : ℕ) → Some v ≡ valued (digit_in c) → digit_of c ≡ v
  unfolding valued digit_of or_none
  digit_is v = by (digit_in c)
    where
      by : (o : Option ℕ) → Some v ≡ valued o → or_none o ≡ v
      by none e = let z : ◌≡◌ {A = ℕ} 0 1 = cc in absurd (omega arith)
      by (some u) e = cc

  pub digit_missing : None ≡ valued (digit_in c) → digit_of c ≡ no_digit
  unfolding valued digit_of or_none
  digit_missing = by (digit_in c)
    where
      by : (o : Option ℕ) → ◌≡◌ {A = std.Option ℕ} None (valued o) → or_none o ≡ no_digit
      by none e = refl
      by (some u) e = let z : ◌≡◌ {A = ℕ} 0 1 = cc in absurd (omega arith)

  pub digit_there : digit_of c < no_digit → Some (digit_of c) ≡ valued (digit_in c)
  unfolding valued digit_of or_none
  digit_there = by (digit_in c)
    where
      by : (o : Option ℕ) → or_none o < no_digit → Some (or_none o) ≡ valued o
      by none h = absurd (omega arith)
      by (some u) h = refl

  -- it is below 16
  pub digit_small : (v : ℕ) → Some v ≡ valued (digit_in c) → v < 16
  unfolding valued digit_in
  digit_small v = decimals (leb 0x30 c && leb c 0x39) refl
    where
      lower : (g : Bool) → (leb 0x61 c && leb c 0x66) ≡ g → Some v ≡ valued (if g then some (c - 0x57) else none) → v < 16
      lower true q e = let same : v ≡ c - 0x57 = cc in omega (arith, high_end 0x61 0x66 c q)
      lower false q e = let z : ◌≡◌ {A = ℕ} 0 1 = cc in absurd (omega arith)

      upper : (g : Bool) → (leb 0x41 c && leb c 0x46) ≡ g → Some v ≡ valued (if g then some (c - 0x37) else if leb 0x61 c && leb c 0x66 then some (c - 0x57) else none) → v < 16
      upper true q e = let same : v ≡ c - 0x37 = cc in omega (arith, high_end 0x41 0x46 c q)
      upper false q e = lower (leb 0x61 c && leb c 0x66) refl e

      decimals : (g : Bool) → (leb 0x30 c && leb c 0x39) ≡ g → Some v ≡ valued (if g then some (c - 0x30) else if leb 0x41 c && leb c 0x46 then some (c - 0x37) else if leb 0x61 c && leb c 0x66 then some (c - 0x57) else none) → v < 16
      decimals true q e = let same : v ≡ c - 0x30 = cc in omega (arith, high_end 0x30 0x39 c q)
      decimals false q e = upper (leb 0x41 c && leb c 0x46) refl e

  -- is there a digit?
  module _ (r : std.Option ℕ) (e : r ≡ valued (digit_in c)) where
    pub some_digit : std.is_some r ≡ true → digit_of c < 16
    some_digit = by r refl
      where
        by : (o : std.Option ℕ) → r ≡ o → std.is_some o ≡ true → digit_of c < 16
        by None q h = let z : ◌≡◌ {A = ℕ} 0 1 = cc in absurd (omega arith)
        by (Some v) q h = omega (arith, digit_is v (sym q ∙ e), digit_small v (sym q ∙ e))

    pub no_digit_there : std.is_some r ≡ false → 16 ≤ digit_of c
    no_digit_there = by r refl
      where
        by : (o : std.Option ℕ) → r ≡ o → std.is_some o ≡ false → 16 ≤ digit_of c
        by None q h = omega (arith, digit_missing (sym q ∙ e))
        by (Some v) q h = let z : ◌≡◌ {A = ℕ} 0 1 = cc in absurd (omega arith)

  module _ (base : ℕ) (most : base ≤ 16) where
    -- it is below the base, or it counts for none
    pub digit_taken : digit_of c < base → bind (digit_in c) (below base) ≡ some (digit_of c)
    unfolding digit_of or_none bind below
    digit_taken h = by (digit_in c) h
      where
        by : (o : Option ℕ) → or_none o < base → bind o (below base) ≡ some (or_none o)
        by none k = absurd (omega arith)
        by (some v) k = rw (lt-ltb v base k)

    pub digit_refused : base ≤ digit_of c → bind (digit_in c) (below base) ≡ none
    unfolding digit_of or_none bind below
    digit_refused h = by (digit_in c) h
      where
        by : (o : Option ℕ) → base ≤ or_none o → bind o (below base) ≡ none
        by none k = refl
        by (some v) k = rw (le-ltb v base k)

-- ---- near numbers

pub near_is : (v : ℕ) → v ≤ far → near v ≡ v
unfolding near
near_is v h = rw (le-leb v far h)

pub near_far : (v : ℕ) → far ≤ v → near v ≡ far
unfolding near
near_far v h = by (leb v far) refl
  where
    by : (g : Bool) → leb v far ≡ g → (if g then v else far) ≡ far
    by true e = omega (arith, leb-true v far e)
    by false e = refl

pub near_most : (v : ℕ) → near v ≤ far
unfolding near
near_most v = by (leb v far) refl
  where
    by : (g : Bool) → leb v far ≡ g → (if g then v else far) ≤ far
    by true e = leb-true v far e
    by false e = omega arith

-- a digit more makes no difference
module _ (base : ℕ) (one : 1 ≤ base) where
  grows : (v : ℕ) → v ≤ v * base
  grows v = omega (arith, mul-le-mul_left v one, mul-one v)

  near_more : (h v : ℕ) → near (near h * base + v) ≡ near (h * base + v)
  near_more h v = by (leb h far) refl
    where
      by : (g : Bool) → leb h far ≡ g → near (near h * base + v) ≡ near (h * base + v)
      by true e = ap (λ (n : ℕ). near (n * base + v)) (near_is h (leb-true h far e))
      by false e =
          let large : far ≤ h = omega (arith, leb-false h far e) in
          let a : far ≤ far * base + v = omega (arith, grows far) in
          let b : far ≤ h * base + v = omega (arith, grows h) in
          ap (λ (n : ℕ). near (n * base + v)) (near_far h large) ∙ near_far (far * base + v) a ∙ sym (near_far (h * base + v) b)

  pub near_digits : (h : ℕ) (l : List ℕ) → map near (value_of base (near h) l) ≡ map near (value_of base h l)
  unfolding value_of bind
  near_digits h [] = ap some (near_is (near h) (near_most h))
  near_digits h (c ∷ cs) = by (bind (digit_in c) (below base)) (λ (n : ℕ). near_digits n cs)
    where
      by : (o : Option ℕ) → ((n : ℕ) → map near (value_of base (near n) cs) ≡ map near (value_of base n cs))
          → map near (bind o (λ v. value_of base (near h * base + v) cs)) ≡ map near (bind o (λ v. value_of base (h * base + v) cs))
      by none ih = refl
      by (some v) ih =
          sym (ih (near h * base + v)) ∙ ap (λ (n : ℕ). map near (value_of base n cs)) (near_more h v) ∙ ih (h * base + v)

-- ---- the number of some digits, one after the other

-- the digits up to a place were read, and make this number
pub record Read (base : ℕ) (s : List ℕ) (v i : ℕ) : Type 0 where
  pub inside : i ≤ length s
  pub small : v ≤ far
  pub is : map near (value_of base v (drop i s)) ≡ map near (value_of base 0 s)

module _ {base : ℕ} {s : List ℕ} {v i : ℕ} (one : 1 ≤ base) (most : base ≤ 16) (r : Read base s v i) where
  pub one_more : i < length s → digit_of (get_or s i 0) < base → Read base s (near (v * base + digit_of (get_or s i 0))) (i + 1)
  unfolding value_of bind
  one_more h d =
      let x : ℕ = get_or s i 0 in
      let step : map near (value_of base v (drop i s)) ≡ map near (value_of base (v * base + digit_of (get_or s i 0)) (drop (i + 1) s))
      = rw (add-one i, drop-cons s i 0 h, digit_taken (get_or s i 0) base most d) in
      record {
        inside = omega arith;
        small = near_most (v * base + digit_of (get_or s i 0));
        is = near_digits base one (v * base + digit_of (get_or s i 0)) (drop (i + 1) s) ∙ sym step ∙ r.is;
      }

  pub no_number : i < length s → base ≤ digit_of (get_or s i 0) → None ≡ near_value base s
  unfolding near_value value_of bind valued
  no_number h d =
      let step : map near (value_of base v (drop i s)) ≡ none = rw (drop-cons s i 0 h, digit_refused (get_or s i 0) base most d) in
      ap valued (sym step ∙ r.is)

  pub all_read : length s ≤ i → Some v ≡ near_value base s
  unfolding near_value value_of valued
  all_read h =
      let end : map near (value_of base v (drop i s)) ≡ some v = ap (λ (l : List ℕ). map near (value_of base v l)) (drop_of_length-le s {i = i} h) ∙ ap some (near_is v r.small) in
      ap valued (sym end ∙ r.is)

-- ---- what an answer says

pub valued_some : (o : Option ℕ) (m : ℕ) → Some m ≡ valued o → o ≡ some m
unfolding valued
valued_some none m e = let z : ◌≡◌ {A = ℕ} 0 1 = cc in absurd (omega arith)
valued_some (some v) m e = let same : m ≡ v = cc in ap some (sym same)

pub valued_none : (o : Option ℕ) → None ≡ valued o → o ≡ none
unfolding valued
valued_none none e = refl
valued_none (some v) e = let z : ◌≡◌ {A = ℕ} 0 1 = cc in absurd (omega arith)

pub record NearNumber (base : ℕ) (l : List ℕ) (v : ℕ) : Type 0 where
  pub exact : ℕ
  pub is : value_of base 0 l ≡ some exact
  pub nears : near exact ≡ v
  pub small : v ≤ far

pub number_there : (base : ℕ) (l : List ℕ) (v : ℕ) → Some v ≡ near_value base l → NearNumber base l v
unfolding near_value valued
number_there base l v = by (value_of base 0 l) refl
  where
    by : (o : Option ℕ) → value_of base 0 l ≡ o → Some v ≡ valued (map near o) → NearNumber base l v
    by none q e = let z : ◌≡◌ {A = ℕ} 0 1 = cc in absurd (omega arith)
    by (some u) q e =
        let n : near u ≡ v = cc in
        record { exact = u; is = q; nears = n; small = omega (arith, near_most u) }

pub number_missing : (base : ℕ) (l : List ℕ) → None ≡ near_value base l → value_of base 0 l ≡ none
unfolding near_value valued
number_missing base l = by (value_of base 0 l) refl
  where
    by : (o : Option ℕ) → value_of base 0 l ≡ o → None ≡ valued (map near o) → value_of base 0 l ≡ none
    by none q e = q
    by (some u) q e = let z : ◌≡◌ {A = ℕ} 0 1 = cc in absurd (omega arith)

-- so many digits make no more than so many digits can
digit_below : (base c v : ℕ) → bind (digit_in c) (below base) ≡ some v → v < base
unfolding bind below
digit_below base c v = by (digit_in c)
  where
    test : (u : ℕ) (g : Bool) → ltb u base ≡ g → ◌≡◌ {A = Option ℕ} (if g then some u else none) (some v) → v < base
    test u true q e = let same : u ≡ v = cc in omega (arith, ltb-true u base q)
    test u false q e = let z : ◌≡◌ {A = ℕ} 0 1 = cc in absurd (omega arith)

    by : (o : Option ℕ) → bind o (below base) ≡ some v → v < base
    by none e = let z : ◌≡◌ {A = ℕ} 0 1 = cc in absurd (omega arith)
    by (some u) e = test u (ltb u base) refl e

pub below_power : (base h : ℕ) (l : List ℕ) (v : ℕ) → value_of base h l ≡ some v → v < (h + 1) * base ^ length l
unfolding value_of bind
below_power base h [] v e =
    let is : h ≡ v = cc in
    let one : (h + 1) * base ^ 0 ≡ h + 1 = ap (λ (n : ℕ). (h + 1) * n) (pow-zero base) ∙ mul-one (h + 1) in
    omega arith
below_power base h (c ∷ cs) v e = by (bind (digit_in c) (below base)) refl (λ (n u : ℕ) (q : value_of base n cs ≡ some u). below_power base n cs u q) e
  where
    by : (o : Option ℕ) → bind (digit_in c) (below base) ≡ o → ((n u : ℕ) → value_of base n cs ≡ some u → u < (n + 1) * base ^ length cs)
        → bind o (λ u. value_of base (h * base + u) cs) ≡ some v → v < (h + 1) * base ^ suc (length cs)
    by none q ih e = let z : ◌≡◌ {A = ℕ} 0 1 = cc in absurd (omega arith)
    by (some u) q ih e =
        let small : h * base + u + 1 ≤ (h + 1) * base = omega (arith, digit_below base c u q, add-mul h 1 base, one-mul base) in
        let more : (h * base + u + 1) * base ^ length cs ≤ (h + 1) * base * base ^ length cs = mul-le-mul_right (base ^ length cs) small in
        let e₂ : (h + 1) * base * base ^ length cs ≡ (h + 1) * base ^ suc (length cs) = mul_assoc (h + 1) base (base ^ length cs) ∙ ap (λ (n : ℕ). (h + 1) * n) (mul_comm base (base ^ length cs) ∙ sym (pow-suc base (length cs))) in
        omega (arith, ih (h * base + u) v e)

-- a number is no less than what it nears, and is that where it is not far
pub near_under : (v : ℕ) → near v ≤ v
unfolding near
near_under v = by (leb v far) refl
  where
    by : (g : Bool) → leb v far ≡ g → (if g then v else far) ≤ v
    by true e = omega arith
    by false e = omega (arith, leb-false v far e)

pub near_same : (v : ℕ) → near v < far → near v ≡ v
unfolding near
near_same v = by (leb v far) refl
  where
    by : (g : Bool) → leb v far ≡ g → (if g then v else far) < far → (if g then v else far) ≡ v
    by true e h = refl
    by false e h = absurd (omega arith)
