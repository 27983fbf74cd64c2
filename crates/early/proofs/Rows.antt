-- A filter's rows against a frame of the identifier: one test of numbers for the identifier, one for the data. Assumes nothing.
use mathlib.Core.Path.{◌≡◌, refl, sym, ap, ap₂, ◌∙◌, subst}
use Prim.Native.Nat.{ℕ, zero, suc, ◌+◌, ◌-◌, ◌*◌, ◌≤◌, ◌<◌}
use native.Mathlib.Nat.{add-suc, add-zero, not-suc-le-zero}
use native.Mathlib.Omega.{arith}
use mathlib.Core.Bool.{Bool, true, false, ◌&&◌, beq}
use mathlib.Core.List.{List, [], ◌∷◌, ◌++◌}
use lib.Dec.{T, eqb, leb}
use lib.Bits.{bit_and, and_zero_r}
use lib.ListN.{length, get_or, take, drop, length-drop, length-append, drop_of_length-le, get_or-append}
use lib.Seq.{drop-drop, drop-cons, get_or-take, get_or-drop, get_or-append-add, length-take-le}
use borrow.Author.Tests.{eq-eqb, ne_eqb, leb-true}
use Rattle.codec.specs.Plain.{all, is_byte, all_zero, all_below}
use Rattle.codec.specs.Word.{word_at}
use Rattle.codec.proofs.Tests.{and_true, and_false, and_assoc}
use Rattle.codec.proofs.Lists.{all_drop}
use Rattle.machine.specs.Limits.{least_data, most_data, most_bytes}
use Rattle.machine.specs.Message.{id_bytes, id_of}
use Rattle.machine.specs.Filter.{matches}
use Rattle.early_rule.specs.Words.{value, digits, mask_word, pattern_word}
use Rattle.early_rule.proofs.Bytes.{digits_long}
use Rattle.early.specs.Cubes.{row_of, data_at}
use Rattle.early.proofs.Bytes.{fits_at, as_words, id_fits, zero_value, zero_at}

-- what a valid memory says of a row of a filter: twelve bytes, zeros from the size on
pub record Row (size : ℕ) (row : List ℕ) : Type 0 where
  pub long : length row ≡ most_data
  pub bytes : T (all is_byte row)
  pub clean : T (all_zero (drop size row))

-- ---- tests of all places

below_same : (n : ℕ) (p q : ℕ → Bool) → ((k : ℕ) → k < n → p k ≡ q k) → all_below n p ≡ all_below n q
unfolding all_below
below_same zero p q f = refl
below_same (suc n) p q f = ap₂ (λ (a b : Bool). a && b) (below_same n p q (λ k h. f k (omega arith))) (f n (omega arith))

below_split : (a n : ℕ) (p : ℕ → Bool) → all_below (a + n) p ≡ (all_below a p && all_below n (λ k. p (a + k)))
unfolding all_below
below_split a zero p = rw add-zero (sym (and_true (all_below a p)))
below_split a (suc n) p =
    ap (λ (k : ℕ). all_below k p) (add-suc a n)
    ∙ ap (λ (b : Bool). b && p (a + n)) (below_split a n p)
    ∙ sym (and_assoc (all_below a p) (all_below n (λ k. p (a + k))) (p (a + n)))

below_more : (s n : ℕ) (p : ℕ → Bool) → ((k : ℕ) → p (s + k) ≡ true) → all_below (s + n) p ≡ all_below s p
unfolding all_below
below_more s zero p f = rw add-zero refl
below_more s (suc n) p f = ap (λ (k : ℕ). all_below k p) (add-suc s n) ∙ ap₂ (λ (a b : Bool). a && b) (below_more s n p f) (f n) ∙ and_true (all_below s p)

-- ---- zeros from the size on

zeros_on : (s k : ℕ) (m : List ℕ) → T (all_zero (drop s m)) → s ≤ k → T (all_zero (drop k m))
zeros_on zero k m t h = all_drop (eqb 0) k m t
zeros_on (suc s) zero m t h = absurd (not-suc-le-zero h)
zeros_on (suc s) (suc k) [] t h = tt
zeros_on (suc s) (suc k) (x ∷ m) t h = zeros_on s k m t (omega arith)

-- ---- a row of a filter against a frame

-- no number is in the cube of a filter that is not kept
pub none_left : (x : ℕ) → eqb (bit_and x 0) 1 ≡ false
none_left x = ne_eqb _ _ (λ e. let z : ◌≡◌ {A = ℕ} 0 1 = sym (and_zero_r x) ∙ e in omega arith)

module _ (id size : ℕ) (mask pattern : List ℕ) (rm : Row size mask) (rp : Row size pattern) (small : size ≤ most_data) where
  abbrev frame : ℕ → ℕ → List ℕ
  frame n x = id_bytes id ++ digits n x

  four : length (id_bytes id) ≡ least_data
  unfolding id_bytes
  four = refl

  past : (bytes : List ℕ) (k : ℕ) → fits_at bytes mask pattern (size + k) ≡ true
  past bytes k =
      let z : (m : List ℕ) → T (all_zero (drop size m)) → get_or m (size + k) 0 ≡ 0 = λ m t. sym (get_or-drop size m k 0) ∙ zero_at (drop size m) k t in
      eq-eqb _ _ (ap (bit_and (get_or bytes (size + k) 0)) (z mask rm.clean) ∙ and_zero_r (get_or bytes (size + k) 0) ∙ sym (z pattern rp.clean))

  all_twelve : (bytes : List ℕ) → all_below size (fits_at bytes mask pattern) ≡ all_below most_data (fits_at bytes mask pattern)
  all_twelve bytes =
      let e : size + (most_data - size) ≡ most_data = omega arith in
      sym (below_more size (most_data - size) (fits_at bytes mask pattern) (past bytes)) ∙ ap (λ (k : ℕ). all_below k (fits_at bytes mask pattern)) e

  -- the identifier's bytes are one test, the data another
  abbrev met : Bool
  met = eqb (bit_and id (id_of mask)) (id_of pattern)

  abbrev in_cube : ℕ → Bool
  in_cube x = eqb (bit_and x (value (drop least_data mask))) (value (drop least_data pattern))

  head_same : (n x : ℕ) → all_below least_data (fits_at (frame n x) mask pattern) ≡ met
  head_same n x =
      below_same least_data _ _ (λ k h. ap (λ (b : ℕ). eqb (bit_and b (get_or mask k 0)) (get_or pattern k 0)) (get_or-append (id_bytes id) (digits n x) 0 k (omega (arith, four))))
      ∙ id_fits id mask pattern rm.bytes rp.bytes

  tail_words : (n x : ℕ) → size ≤ least_data + n → all_below most_bytes (λ k. fits_at (frame n x) mask pattern (least_data + k)) ≡ in_cube x
  tail_words n x h =
      let lm : length (drop least_data mask) ≡ most_bytes = length-drop least_data mask ∙ ap (λ (k : ℕ). k - least_data) rm.long in
      let lp : length (drop least_data pattern) ≡ most_bytes = length-drop least_data pattern ∙ ap (λ (k : ℕ). k - least_data) rp.long in
      let at : (k : ℕ) → get_or (frame n x) (least_data + k) 0 ≡ get_or (digits n x) k 0 =
      λ k. ap (λ (j : ℕ). get_or (frame n x) (j + k) 0) (sym four) ∙ get_or-append-add (id_bytes id) (digits n x) k 0
      in
      let z : (m : List ℕ) → T (all_zero (drop size m)) → T (all_zero (drop n (drop least_data m))) =
      λ m t. subst (λ (l : List ℕ). T (all_zero l)) (sym (drop-drop n least_data m)) (zeros_on size (least_data + n) m t h)
      in
      below_same most_bytes _ _
      (λ k l.
      ap₂ (λ (b c : ℕ). eqb (bit_and b c) (get_or pattern (least_data + k) 0)) (at k) (sym (get_or-drop least_data mask k 0))
      ∙ ap (eqb (bit_and (get_or (digits n x) k 0) (get_or (drop least_data mask) k 0))) (sym (get_or-drop least_data pattern k 0)))
      ∙ ap (λ (k : ℕ). all_below k (fits_at (digits n x) (drop least_data mask) (drop least_data pattern))) (sym lm)
      ∙ as_words n x (drop least_data mask) (drop least_data pattern) (lm ∙ sym lp) (all_drop is_byte least_data mask rm.bytes) (all_drop is_byte least_data pattern rp.bytes) (z mask rm.clean) (z pattern rp.clean)

  fits_words : (n x : ℕ) → size ≤ least_data + n → all_below size (fits_at (frame n x) mask pattern) ≡ (met && in_cube x)
  fits_words n x h =
      all_twelve (frame n x)
      ∙ below_split least_data most_bytes (fits_at (frame n x) mask pattern)
      ∙ ap₂ (λ (a b : Bool). a && b) (head_same n x) (tail_words n x h)

  -- a filter that is there, of a width
  pub meets_words : (block width wide : Bool) (n x : ℕ)
      → matches wide (frame n x) (record { block = block; wide = width; size = size; mask = mask; pattern = pattern })
      ≡ (leb size (least_data + n)
      && eqb (bit_and x (mask_word (beq wide width && met) (value (drop least_data mask)))) (pattern_word (beq wide width && met) (value (drop least_data pattern))))
  unfolding matches
  meets_words block width wide n x =
      let l : length (frame n x) ≡ least_data + n = length-append (id_bytes id) (digits n x) ∙ ap₂ (λ (a b : ℕ). a + b) four (digits_long n x) in
      ap (λ (j : ℕ). beq wide width && leb size j && all_below size (fits_at (frame n x) mask pattern)) l ∙ go (leb size (least_data + n)) refl
    where
      pick : (b h : Bool) → (b && (h && in_cube x)) ≡ eqb (bit_and x (mask_word (b && h) (value (drop least_data mask)))) (pattern_word (b && h) (value (drop least_data pattern)))
      pick true true = unfold mask_word pattern_word in refl
      pick true false = unfold mask_word pattern_word in sym (none_left x)
      pick false h = unfold mask_word pattern_word in sym (none_left x)

      go : (t : Bool) → leb size (least_data + n) ≡ t
          → (beq wide width && t && all_below size (fits_at (frame n x) mask pattern))
          ≡ (t && eqb (bit_and x (mask_word (beq wide width && met) (value (drop least_data mask)))) (pattern_word (beq wide width && met) (value (drop least_data pattern))))
      go true e = ap₂ (λ (a b : Bool). a && b) (and_true (beq wide width)) (fits_words n x (leb-true _ _ e)) ∙ pick (beq wide width) met
      go false e = ap (λ (b : Bool). b && all_below size (fits_at (frame n x) mask pattern)) (and_false (beq wide width))

  pub short_mask : (b : Bool) → size ≤ least_data → mask_word b (value (drop least_data mask)) ≡ 0
  unfolding mask_word
  short_mask true h = zero_value (drop least_data mask) (zeros_on size least_data mask rm.clean h)
  short_mask false h = refl

-- ---- eight bytes of a row as one number

row_value : (row : List ℕ) → length row ≡ most_data
    → (get_or row 4 0 + 0x100 * get_or row 5 0 + 0x1_0000 * get_or row 6 0 + 0x100_0000 * get_or row 7 0) + 0x1_0000_0000 * (get_or row 8 0 + 0x100 * get_or row 9 0 + 0x1_0000 * get_or row 10 0 + 0x100_0000 * get_or row 11 0)
    ≡ value (drop least_data row)
unfolding value
row_value row l =
    let v : (i : ℕ) → i < most_data → value (drop i row) ≡ value (drop (suc i) row) * 256 + get_or row i 0 = λ i h. ap value (drop-cons row i 0 (omega arith)) in
    let z : value (drop most_data row) ≡ 0 = ap value (drop_of_length-le row {i = most_data} (omega arith)) in
    omega (arith, v 4 (omega arith), v 5 (omega arith), v 6 (omega arith), v 7 (omega arith), v 8 (omega arith), v 9 (omega arith), v 10 (omega arith), v 11 (omega arith))

-- two numbers of four bytes, behind the identifier's
pub data_value : (m : List ℕ) (at low high : ℕ) → at + most_data ≤ length m → low ≡ word_at (at + least_data) m → high ≡ word_at (at + least_data + least_data) m → low + 0x1_0000_0000 * high ≡ data_at m at
unfolding word_at data_at
data_value m at low high h e f =
    let b : (i k : ℕ) → i < most_data → k ≡ at + i → get_or m k 0 ≡ get_or (row_of m at) i 0 =
    λ i k h q. ap (λ (j : ℕ). get_or m j 0) q ∙ sym (get_or-take most_data (drop at m) i 0 h ∙ get_or-drop at m i 0)
    in
    let r = row_value (row_of m at) (length-take-le most_data (drop at m) (omega (arith, length-drop at m))) in
    omega (
      arith,
      b 4 (at + least_data) (omega arith) refl,
      b 5 (at + least_data + 1) (omega arith) (omega arith),
      b 6 (at + least_data + 2) (omega arith) (omega arith),
      b 7 (at + least_data + 3) (omega arith) (omega arith),
      b 8 (at + least_data + least_data) (omega arith) (omega arith),
      b 9 (at + least_data + least_data + 1) (omega arith) (omega arith),
      b 10 (at + least_data + least_data + 2) (omega arith) (omega arith),
      b 11 (at + least_data + least_data + 3) (omega arith) (omega arith),
    )
