-- Bytes as a number: a test of bytes one by one is one test of numbers. Assumes nothing.
use mathlib.Core.Path.{◌≡◌, refl, sym, ap, ap₂, ◌∙◌}
use Prim.Native.Nat.{ℕ, zero, suc, ◌+◌, ◌-◌, ◌*◌, ◌/◌, ◌%◌, ◌<◌}
use native.Mathlib.Nat.{mod-lt, div-add-mod', div-div-eq-div-mul}
use native.Mathlib.Omega.{arith}
use mathlib.Core.Bool.{Bool, true, false, ◌&&◌}
use mathlib.Core.List.{List, [], ◌∷◌}
use lib.Dec.{T, eqb, eqb→eq, ltb→lt, lt→ltb}
use lib.ListN.{length, get_or, drop}
use lib.Pow.{high, low}
use lib.Bits.{bit_and, and_block, and_lt, and_zero_r}
use borrow.Author.Tests.{eq-eqb, ne_eqb, eqb-true, eqb-false}
use Rattle.codec.specs.Plain.{all, is_byte, all_zero, all_below}
use Rattle.codec.proofs.Tests.{left, right, join, and_true, and_false, and_assoc}
use Rattle.machine.specs.Message.{id_bytes, id_of}
use Rattle.early_rule.specs.Words.{value, digits}

-- a byte of a frame is met by the filter's
abbrev pub fits_at : List ℕ → List ℕ → List ℕ → ℕ → Bool
fits_at bytes mask pattern k = eqb (bit_and (get_or bytes k 0) (get_or mask k 0)) (get_or pattern k 0)

-- ---- two numbers are equal if their low bytes and the rest are

two_parts : (a b c d : ℕ) → b < 256 → d < 256 → eqb (a * 256 + b) (c * 256 + d) ≡ (eqb b d && eqb a c)
two_parts a b c d h k = go (eqb b d) (eqb a c) refl refl
  where
    go : (x y : Bool) → eqb b d ≡ x → eqb a c ≡ y → eqb (a * 256 + b) (c * 256 + d) ≡ (x && y)
    go true true e f = eq-eqb _ _ (ap₂ (λ (p q : ℕ). p * 256 + q) (eqb-true a c f) (eqb-true b d e))
    go true false e f = ne_eqb _ _ (λ (q : a * 256 + b ≡ c * 256 + d). eqb-false a c f (omega arith))
    go false y e f = ne_eqb _ _ (λ (q : a * 256 + b ≡ c * 256 + d). eqb-false b d e (omega arith))

-- ---- a test of all places, from the front

pub front : (n : ℕ) (p : ℕ → Bool) → all_below (suc n) p ≡ (p 0 && all_below n (λ k. p (suc k)))
unfolding all_below
front zero p = sym (and_true (p 0))
front (suc n) p = ap (λ (b : Bool). b && p (suc n)) (front n p) ∙ sym (and_assoc (p 0) (all_below n (λ k. p (suc k))) (p (suc n)))

pub zero_value : (d : List ℕ) → T (all_zero d) → value d ≡ 0
unfolding value
zero_value [] t = refl
zero_value (b ∷ d) t =
    let h : 0 ≡ b = eqb→eq 0 b (left (eqb 0 b) (all_zero d) t) in
    let e = zero_value d (right (eqb 0 b) (all_zero d) t) in omega arith

pub zero_at : (m : List ℕ) (n : ℕ) → T (all_zero m) → get_or m n 0 ≡ 0
zero_at [] n t = refl
zero_at (x ∷ m) zero t = sym (eqb→eq 0 x (left (eqb 0 x) (all_zero m) t))
zero_at (x ∷ m) (suc n) t = zero_at m n (right (eqb 0 x) (all_zero m) t)

-- where a mask is zeros, so must the pattern be
all_fit : (d m p : List ℕ) (n : ℕ) → T (all_zero m) → T (all_zero p) → all_below n (fits_at d m p) ≡ true
unfolding all_below
all_fit d m p zero s t = refl
all_fit d m p (suc n) s t =
    let a : get_or m n 0 ≡ 0 = zero_at m n s in
    let b : get_or p n 0 ≡ 0 = zero_at p n t in
    ap₂ (λ (x y : Bool). x && y) (all_fit d m p n s t) (eq-eqb _ _ (ap (bit_and (get_or d n 0)) a ∙ and_zero_r (get_or d n 0) ∙ sym b))

-- THE BYTES of a row, met one by one by the n lowest bytes of x, where the row has zeros from n on: one test of numbers
pub as_words : (n x : ℕ) (m p : List ℕ) → length m ≡ length p → T (all is_byte m) → T (all is_byte p) → T (all_zero (drop n m)) → T (all_zero (drop n p))
    → all_below (length m) (fits_at (digits n x) m p) ≡ eqb (bit_and x (value m)) (value p)
unfolding value digits
as_words n x [] [] l a b s t = unfold all_below in sym (eq-eqb _ _ (and_zero_r x))
as_words n x [] (q ∷ p) l a b s t = absurd (omega arith)
as_words n x (c ∷ m) [] l a b s t = absurd (omega arith)
as_words zero x (c ∷ m) (q ∷ p) l a b s t =
    all_fit [] (c ∷ m) (q ∷ p) (suc (length m)) s t
    ∙ sym (eq-eqb _ _ (ap (bit_and x) (zero_value (c ∷ m) s) ∙ and_zero_r x ∙ sym (zero_value (q ∷ p) t)))
as_words (suc n) x (c ∷ m) (q ∷ p) l a b s t =
    let hc : c < 256 = ltb→lt c 256 (left (is_byte c) (all is_byte m) a) in
    let hq : q < 256 = ltb→lt q 256 (left (is_byte q) (all is_byte p) b) in
    let hx : x % 256 < 256 = mod-lt x (omega arith) in
    front (length m) (fits_at (x % 256 ∷ digits n (x / 256)) (c ∷ m) (q ∷ p))
    ∙ ap (λ (z : Bool). eqb (bit_and (x % 256) c) q && z)
    (as_words n (x / 256) m p (omega arith) (right (is_byte c) (all is_byte m) a) (right (is_byte q) (all is_byte p) b) s t)
    ∙ sym (two_parts (bit_and (x / 256) (value m)) (bit_and (x % 256) c) (value p) q (and_lt 8 (x % 256) c hx hc) hq)
    ∙ ap (λ (y : ℕ). eqb y (value p * 256 + q)) (sym (and_block 8 (x / 256) (value m) (x % 256) c hx hc) ∙ ap (λ (y : ℕ). bit_and y (value m * 256 + c)) (div-add-mod' x 256))

-- ---- four identifier bytes, highest first, met one by one: one test of numbers

and_swap : (a b : Bool) → (a && b) ≡ (b && a)
and_swap true b = sym (and_true b)
and_swap false b = sym (and_false b)

turned : (a b c d : Bool) → (a && b && c && d) ≡ (d && c && b && a)
turned a b c d =
    and_swap (a && b && c) d
    ∙ ap (λ (x : Bool). d && x) (and_swap (a && b) c ∙ ap (λ (x : Bool). c && x) (and_swap a b))
    ∙ and_assoc d c (b && a)
    ∙ and_assoc (d && c) b a

module _ (id : ℕ) (mask pattern : List ℕ) (tm : T (all is_byte mask)) (tp : T (all is_byte pattern)) where
  abbrev turn : List ℕ → List ℕ
  turn m = get_or m 3 0 ∷ get_or m 2 0 ∷ get_or m 1 0 ∷ get_or m 0 0 ∷ []

  turn_bytes : (m : List ℕ) → T (all is_byte m) → T (all is_byte (turn m))
  turn_bytes m t =
      let b : (k : ℕ) → T (is_byte (get_or m k 0)) = byte_here m t in
      join (is_byte (get_or m 3 0)) _ (b 3) (join (is_byte (get_or m 2 0)) _ (b 2) (join (is_byte (get_or m 1 0)) _ (b 1) (join (is_byte (get_or m 0 0)) true (b 0) tt)))
    where
      byte_here : (m : List ℕ) → T (all is_byte m) → (k : ℕ) → T (is_byte (get_or m k 0))
      byte_here [] t k = tt
      byte_here (x ∷ m) t zero = left (is_byte x) (all is_byte m) t
      byte_here (x ∷ m) t (suc k) = byte_here m (right (is_byte x) (all is_byte m) t) k

  turn_value : (m : List ℕ) → value (turn m) ≡ id_of m
  unfolding value id_of
  turn_value m = omega arith

  pub id_fits : all_below 4 (fits_at (id_bytes id) mask pattern) ≡ eqb (bit_and id (id_of mask)) (id_of pattern)
  unfolding id_bytes digits all_below
  id_fits =
      let q : id / 0x1_0000 ≡ id / 256 / 256 = sym (div-div-eq-div-mul id 256 256) in
      let r : id / 0x100_0000 ≡ id / 256 / 256 / 256 = sym (ap (λ (k : ℕ). k / 256) (div-div-eq-div-mul id 256 256) ∙ div-div-eq-div-mul id 0x1_0000 256) in
      turned (fits_at (id_bytes id) mask pattern 0) (fits_at (id_bytes id) mask pattern 1) (fits_at (id_bytes id) mask pattern 2) (fits_at (id_bytes id) mask pattern 3)
      ∙ ap₂
      (λ (u v : ℕ). eqb (bit_and (id % 256) (get_or mask 3 0)) (get_or pattern 3 0) && eqb (bit_and (id / 256 % 256) (get_or mask 2 0)) (get_or pattern 2 0) && eqb (bit_and (u % 256) (get_or mask 1 0)) (get_or pattern 1 0) && eqb (bit_and (v % 256) (get_or mask 0 0)) (get_or pattern 0 0))
      q r
      ∙ as_words 4 id (turn mask) (turn pattern) refl (turn_bytes mask tm) (turn_bytes pattern tp) tt tt
      ∙ ap₂ (λ (a b : ℕ). eqb (bit_and id a) b) (turn_value mask) (turn_value pattern)
