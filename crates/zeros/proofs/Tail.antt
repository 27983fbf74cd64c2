-- Bytes as one number, lowest first: they are zeros from the k-th on exactly where the number fits k bytes. Assumes nothing.
use mathlib.Core.Path.{◌≡◌, refl, sym, ap, ap₂, ◌∙◌}
use Prim.Native.Nat.{ℕ, zero, suc, ◌+◌, ◌*◌, ◌-◌, ◌/◌, ◌^◌, ◌≤◌, ◌<◌, min}
use native.Mathlib.Nat.{div-one, zero-div, div-eq_of_lt}
use native.Mathlib.Numerals.{add-one}
use native.Mathlib.Omega.{arith}
use mathlib.Core.Bool.{Bool, true, false, ◌&&◌}
use mathlib.Core.List.{List, [], ◌∷◌, ◌++◌}
use lib.ListN.{length, get_or, take, drop, length-drop, drop_of_length-le}
use lib.Seq.{drop-cons, drop-drop, take-add, drop-append-add, drop-append-le, length-take-le}
use lib.Dec.{T, eqb, leb, ltb→lt}
use lib.Pow.{shr-shr}
use borrow.Author.Tests.{eq-eqb, ne_eqb, eqb-true, eqb-false, leb-true, leb-false}
use Rattle.codec.specs.Plain.{all, is_byte, all_zero}
use Rattle.codec.specs.Word.{word_at}
use Rattle.machine.specs.Limits.{record_size, most_data}
use Rattle.codec.proofs.Tests.{left, right}
use Rattle.codec.proofs.Lists.{all_take, all_drop, all_split}

-- the number of a list of bytes
abbrev value : List ℕ → ℕ
value [] = 0
value (x ∷ b) = x + 256 * value b

zero_more : (x v : ℕ) → eqb (x + 256 * v) 0 ≡ (eqb 0 x && eqb v 0)
zero_more x v = go (eqb 0 x) (eqb v 0) refl refl
  where
    go : (a b : Bool) → eqb 0 x ≡ a → eqb v 0 ≡ b → eqb (x + 256 * v) 0 ≡ (a && b)
    go true true p q = eq-eqb (x + 256 * v) 0 (omega (arith, eqb-true 0 x p, eqb-true v 0 q))
    go true false p q = ne_eqb (x + 256 * v) 0 (λ e. eqb-false v 0 q (omega arith))
    go false b p q = ne_eqb (x + 256 * v) 0 (λ e. eqb-false 0 x p (omega arith))

zeros_value : (b : List ℕ) → eqb (value b) 0 ≡ all_zero b
zeros_value [] = refl
zeros_value (x ∷ b) = zero_more x (value b) ∙ ap (λ (z : Bool). eqb 0 x && z) (zeros_value b)

digit_less : (x v k : ℕ) → x < 256 → (x + 256 * v) / 2 ^ (8 * suc k) ≡ v / 2 ^ (8 * k)
digit_less x v k h =
    let e : 8 * suc k ≡ 8 + 8 * k = omega arith in
    let d : (x + 256 * v) / 256 ≡ v = omega arith in
    ap (λ (n : ℕ). (x + 256 * v) / 2 ^ n) e ∙ sym (shr-shr (x + 256 * v) 8 (8 * k)) ∙ ap (λ (n : ℕ). n / 2 ^ (8 * k)) d

tail_value : (k : ℕ) (b : List ℕ) → T (all is_byte b) → eqb (value b / 2 ^ (8 * k)) 0 ≡ all_zero (drop k b)
tail_value zero b t = ap (λ (n : ℕ). eqb n 0) (div-one (value b)) ∙ zeros_value b
tail_value (suc k) [] t = ap (λ (n : ℕ). eqb n 0) (zero-div (2 ^ (8 * suc k)))
tail_value (suc k) (x ∷ b) t =
    ap (λ (n : ℕ). eqb n 0) (digit_less x (value b) k (ltb→lt x 256 (left (is_byte x) (all is_byte b) t))) ∙ tail_value k b (right (is_byte x) (all is_byte b) t)

-- as code finds it out: every number of 64 bits fits eight bytes
pub whole : (x k : ℕ) → 7 < k → k ≤ 8 → x < 0x1_0000_0000_0000_0000 → true ≡ eqb (x / 2 ^ (8 * k)) 0
whole x k more most h =
    let e : k ≡ 8 = omega arith in
    sym (ap (λ (j : ℕ). eqb (x / 2 ^ (8 * j)) 0) e ∙ eq-eqb (x / 0x1_0000_0000_0000_0000) 0 (div-eq_of_lt h))

-- ---- the number of four and of eight bytes at a place

front : (at next n : ℕ) (m : List ℕ) → at < length m → next ≡ at + 1 → value (take (suc n) (drop at m)) ≡ get_or m at 0 + 256 * value (take n (drop next m))
front at next n m h e =
    ap (λ (x : List ℕ). value (take (suc n) x)) (drop-cons m at 0 h) ∙ ap (λ (j : ℕ). get_or m at 0 + 256 * value (take n (drop j m))) (sym (e ∙ add-one at))

four_value : (n at : ℕ) (m : List ℕ) → at + 4 ≤ length m → value (take (suc (suc (suc (suc n)))) (drop at m)) ≡ word_at at m + 0x1_0000_0000 * value (take n (drop (at + 4) m))
unfolding word_at
four_value n at m h =
    omega
    (arith, front at (at + 1) (suc (suc (suc n))) m (omega arith) refl, front (at + 1) (at + 2) (suc (suc n)) m (omega arith) (omega arith), front (at + 2) (at + 3) (suc n) m (omega arith) (omega arith), front (at + 3) (at + 4) n m (omega arith) (omega arith))

module _ (m : List ℕ) (t : T (all is_byte m)) (at : ℕ) where
  part_bytes : (k n : ℕ) → T (all is_byte (take n (drop k m)))
  part_bytes k n = all_take is_byte n (drop k m) (all_drop is_byte k m t)

  pub four_end : (k : ℕ) → at + 4 ≤ length m → eqb (word_at at m / 2 ^ (8 * k)) 0 ≡ all_zero (drop k (take 4 (drop at m)))
  four_end k h =
      let v : word_at at m ≡ value (take 4 (drop at m)) = omega (arith, four_value 0 at m h) in
      ap (λ (x : ℕ). eqb (x / 2 ^ (8 * k)) 0) v ∙ tail_value k (take 4 (drop at m)) (part_bytes at 4)

  pub eight_end_law : (k : ℕ) → at + 8 ≤ length m → eqb ((word_at at m + 0x1_0000_0000 * word_at (at + 4) m) / 2 ^ (8 * k)) 0 ≡ all_zero (drop k (take 8 (drop at m)))
  eight_end_law k h =
      let v : word_at at m + 0x1_0000_0000 * word_at (at + 4) m ≡ value (take 8 (drop at m)) = omega (arith, four_value 4 at m (omega arith), four_value 0 (at + 4) m (omega arith)) in
      ap (λ (x : ℕ). eqb (x / 2 ^ (8 * k)) 0) v ∙ tail_value k (take 8 (drop at m)) (part_bytes at 8)

-- ---- twelve bytes as eight and four

split_end : (n : ℕ) (x y : List ℕ) → length x ≡ 8 → (all_zero (drop (min n 8) x) && all_zero (drop (n - min n 8) y)) ≡ all_zero (drop n (x ++ y))
split_end n x y h = go (leb n 8) refl
  where
    go : (b : Bool) → leb n 8 ≡ b → (all_zero (drop (min n 8) x) && all_zero (drop (n - min n 8) y)) ≡ all_zero (drop n (x ++ y))
    go true p =
        let l : n ≤ 8 = leb-true n 8 p in
        let e : min n 8 ≡ n = omega arith in
        let z : n - min n 8 ≡ 0 = omega arith in
        ap₂ (λ (i j : ℕ). all_zero (drop i x) && all_zero (drop j y)) e z
        ∙ sym (all_split (eqb 0) (drop n x) y) ∙ ap (λ (r : List ℕ). all_zero r) (sym (drop-append-le n x y (omega arith)))
    go false p =
        let l : 8 < n = leb-false n 8 p in
        let e : min n 8 ≡ 8 = omega arith in
        let s : n ≡ length x + (n - min n 8) = omega arith in
        ap (λ (r : List ℕ). all_zero r && all_zero (drop (n - min n 8) y)) (drop_of_length-le x {i = min n 8} (omega arith))
        ∙ ap (λ (r : List ℕ). all_zero r) (sym (ap (λ (i : ℕ). drop i (x ++ y)) s ∙ drop-append-add x y (n - min n 8)))

pub twelve_end_law : (n at : ℕ) (m : List ℕ) → at + most_data ≤ length m
    → (all_zero (drop (min n 8) (take 8 (drop at m))) && all_zero (drop (n - min n 8) (take 4 (drop (at + 8) m)))) ≡ all_zero (drop n (take most_data (drop at m)))
twelve_end_law n at m h =
    ap (λ (r : List ℕ). all_zero (drop (min n 8) (take 8 (drop at m))) && all_zero (drop (n - min n 8) (take 4 r))) (sym (drop-drop 8 at m))
    ∙ split_end n (take 8 (drop at m)) (take 4 (drop 8 (drop at m))) (length-take-le 8 (drop at m) (omega (arith, length-drop at m)))
    ∙ ap (λ (r : List ℕ). all_zero (drop n r)) (sym (take-add 8 4 (drop at m)))

-- ---- 36 bytes as four times eight and four

joined : (a b at next : ℕ) (m : List ℕ) → next ≡ at + a → (all_zero (take a (drop at m)) && all_zero (take b (drop next m))) ≡ all_zero (take (a + b) (drop at m))
joined a b at next m e =
    ap (λ (r : List ℕ). all_zero (take a (drop at m)) && all_zero (take b r)) (ap (λ (k : ℕ). drop k m) e ∙ sym (drop-drop a at m))
    ∙ sym (all_split (eqb 0) (take a (drop at m)) (take b (drop a (drop at m))))
    ∙ ap (λ (r : List ℕ). all_zero r) (sym (take-add a b (drop at m)))

pub no_record : (m : List ℕ) → T (all is_byte m) → (at : ℕ) → at + record_size ≤ length m
    → (all_zero (take 8 (drop at m)) && all_zero (take 8 (drop (at + 8) m)) && all_zero (take 8 (drop (at + 16) m)) && all_zero (take 8 (drop (at + 24) m)) && eqb (word_at (at + 32) m) 0) ≡ all_zero (take record_size (drop at m))
no_record m t at h =
    let last : eqb (word_at (at + 32) m) 0 ≡ all_zero (take 4 (drop (at + 32) m)) =
    ap (λ (n : ℕ). eqb n 0) (sym (div-one (word_at (at + 32) m))) ∙ four_end m t (at + 32) 0 (omega arith) in
    (λ j. joined 8 8 at (at + 8) m refl j && all_zero (take 8 (drop (at + 16) m)) && all_zero (take 8 (drop (at + 24) m)) && last j)
    ∙ (λ j. joined 16 8 at (at + 16) m refl j && all_zero (take 8 (drop (at + 24) m)) && all_zero (take 4 (drop (at + 32) m)))
    ∙ (λ j. joined 24 8 at (at + 24) m refl j && all_zero (take 4 (drop (at + 32) m)))
    ∙ joined 32 4 at (at + 32) m refl

-- a first byte that is not zero
pub first_set : (m : List ℕ) → (get_or m 0 0 ≡ 0 → ⊥) → false ≡ all_zero m
first_set [] h = absurd (h refl)
first_set (x ∷ m) h = ap (λ (b : Bool). b && all_zero m) (sym (ne_eqb 0 x (λ e. h (sym e))))
