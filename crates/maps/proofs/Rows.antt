-- A narrow filter of size 4 or less against the identifiers of a map: one test for its first two bytes, one a byte of the map, one a bit. Assumes
-- nothing.
use mathlib.Core.Path.{◌≡◌, refl, sym, ap, ap₂, ◌∙◌}
use Prim.Native.Nat.{ℕ, zero, suc, ◌+◌, ◌-◌, ◌*◌, ◌/◌, ◌%◌, ◌≤◌, ◌<◌}
use native.Mathlib.Nat.{mod-lt, div-add-mod', add-suc, add-zero}
use native.Mathlib.Omega.{arith}
use mathlib.Core.Bool.{Bool, true, false, not, ◌&&◌, beq}
use mathlib.Core.List.{List, [], ◌∷◌}
use lib.Dec.{T, eqb, leb, eqb→eq}
use lib.ListN.{length, get_or, drop}
use lib.Seq.{get_or-drop}
use lib.Bits.{bit_and, and_block, and_lt, and_zero_r}
use borrow.Author.Tests.{eq-eqb, ne_eqb, eqb-true, eqb-false, leb-true}
use Rattle.codec.specs.Plain.{all_below, all_zero}
use Rattle.codec.proofs.Tests.{left, right, and_true}
use Rattle.machine.specs.Limits.{least_data}
use Rattle.machine.specs.Message.{id_bytes}
use Rattle.machine.specs.Filter.{matches}
use Rattle.map_rule.specs.Map.{map_size}
use Rattle.map_bands.specs.Bands.{band_size}

-- ---- zeros from the size on

zero_at : (m : List ℕ) (k : ℕ) → T (all_zero m) → get_or m k 0 ≡ 0
zero_at [] k t = refl
zero_at (x ∷ m) zero t = sym (eqb→eq 0 x (left (eqb 0 x) (all_zero m) t))
zero_at (x ∷ m) (suc k) t = zero_at m k (right (eqb 0 x) (all_zero m) t)

below_more : (s n : ℕ) (p : ℕ → Bool) → ((k : ℕ) → p (s + k) ≡ true) → all_below (s + n) p ≡ all_below s p
unfolding all_below
below_more s zero p f = rw add-zero refl
below_more s (suc n) p f = ap (λ (k : ℕ). all_below k p) (add-suc s n) ∙ ap₂ (λ (a b : Bool). a && b) (below_more s n p f) (f n) ∙ and_true (all_below s p)

-- ---- the low byte of an identifier: five bits and three

two_parts : (a b c d : ℕ) → b < 8 → d < 8 → eqb (a * 8 + b) (c * 8 + d) ≡ (eqb a c && eqb b d)
two_parts a b c d h k = go (eqb a c) (eqb b d) refl refl
  where
    go : (x y : Bool) → eqb a c ≡ x → eqb b d ≡ y → eqb (a * 8 + b) (c * 8 + d) ≡ (x && y)
    go true true e f = eq-eqb _ _ (ap₂ (λ (p q : ℕ). p * 8 + q) (eqb-true a c e) (eqb-true b d f))
    go true false e f = ne_eqb _ _ (λ (q : a * 8 + b ≡ c * 8 + d). eqb-false b d f (omega arith))
    go false y e f = ne_eqb _ _ (λ (q : a * 8 + b ≡ c * 8 + d). eqb-false a c e (omega arith))

low_byte : (l j m p : ℕ) → j < 8 → eqb (bit_and (l * 8 + j) m) p ≡ (eqb (bit_and l (m / 8)) (p / 8) && eqb (bit_and j (m % 8)) (p % 8))
low_byte l j m p h =
    let hm : m % 8 < 8 = mod-lt m (omega arith) in
    let hp : p % 8 < 8 = mod-lt p (omega arith) in
    ap₂ eqb (ap (bit_and (l * 8 + j)) (sym (div-add-mod' m 8)) ∙ and_block 3 l (m / 8) j (m % 8) h hm) (sym (div-add-mod' p 8))
    ∙ two_parts (bit_and l (m / 8)) (bit_and j (m % 8)) (p / 8) (p % 8) (and_lt 3 j (m % 8) h hm) hp

abbrev fitting : List ℕ → List ℕ → List ℕ → ℕ → Bool
fitting bytes mask pattern k = eqb (bit_and (get_or bytes k 0) (get_or mask k 0)) (get_or pattern k 0)

id_bytes_law : (k j : ℕ) → k < map_size → j < 8 → id_bytes (k * 8 + j) ≡ 0 ∷ 0 ∷ (k / band_size) ∷ (k % band_size * 8 + j) ∷ []
unfolding id_bytes
id_bytes_law k j h g =
    let a : (k * 8 + j) / 0x100_0000 % 256 ≡ 0 = omega arith in
    let b : (k * 8 + j) / 0x1_0000 % 256 ≡ 0 = omega arith in
    let c : (k * 8 + j) / 0x100 % 256 ≡ k / band_size = omega arith in
    let d : (k * 8 + j) % 256 ≡ k % band_size * 8 + j = omega arith in
    λ i. a i ∷ b i ∷ c i ∷ d i ∷ []

-- ---- the three tests

-- the first two bytes are met by an identifier of eleven bits, where both are 0
abbrev pub unset : List ℕ → Bool
unset pattern = eqb 0 (get_or pattern 0 0) && eqb 0 (get_or pattern 1 0)

-- byte k of the map: the upper three bits, and the upper five of the low byte
abbrev pub in_byte : ℕ → ℕ → ℕ → ℕ → ℕ → Bool
in_byte hm hp lm lp k = eqb (bit_and (k / band_size) hm) hp && eqb (bit_and (k % band_size) (lm / 8)) (lp / 8)

-- bit j of the byte
abbrev pub in_bit : ℕ → ℕ → ℕ → Bool
in_bit lm lp j = eqb (bit_and j (lm % 8)) (lp % 8)

module _ (size : ℕ) (mask pattern : List ℕ) (mask_ends : T (all_zero (drop size mask))) (pattern_ends : T (all_zero (drop size pattern))) where
  past : (bytes : List ℕ) (k : ℕ) → fitting bytes mask pattern (size + k) ≡ true
  past bytes k =
      let z : (m : List ℕ) → T (all_zero (drop size m)) → get_or m (size + k) 0 ≡ 0 = λ m t. sym (get_or-drop size m k 0) ∙ zero_at (drop size m) k t in
      eq-eqb _ _ (ap (bit_and (get_or bytes (size + k) 0)) (z mask mask_ends) ∙ and_zero_r (get_or bytes (size + k) 0) ∙ sym (z pattern pattern_ends))

  four_bytes : (bytes : List ℕ) → size ≤ least_data → all_below size (fitting bytes mask pattern) ≡ all_below least_data (fitting bytes mask pattern)
  four_bytes bytes h =
      let e : size + (least_data - size) ≡ least_data = omega arith in
      sym (below_more size (least_data - size) (fitting bytes mask pattern) (past bytes)) ∙ ap (λ (k : ℕ). all_below k (fitting bytes mask pattern)) e

  abbrev byte_fits : ℕ → Bool
  byte_fits k = in_byte (get_or mask 2 0) (get_or pattern 2 0) (get_or mask 3 0) (get_or pattern 3 0) k

  abbrev bit_fits : ℕ → Bool
  bit_fits j = in_bit (get_or mask 3 0) (get_or pattern 3 0) j

  met : (k j : ℕ) → k < map_size → j < 8 → all_below least_data (fitting (id_bytes (k * 8 + j)) mask pattern) ≡ ((unset pattern && byte_fits k) && bit_fits j)
  unfolding all_below
  met k j h g =
      ap (λ (b : List ℕ). all_below least_data (fitting b mask pattern)) (id_bytes_law k j h g)
      ∙ ap (λ (t : Bool). (unset pattern && eqb (bit_and (k / band_size) (get_or mask 2 0)) (get_or pattern 2 0)) && t) (low_byte (k % band_size) j (get_or mask 3 0) (get_or pattern 3 0) g)
      ∙ group (unset pattern) (eqb (bit_and (k / band_size) (get_or mask 2 0)) (get_or pattern 2 0)) (eqb (bit_and (k % band_size) (get_or mask 3 0 / 8)) (get_or pattern 3 0 / 8)) (bit_fits j)
    where
      group : (a b c d : Bool) → ((a && b) && (c && d)) ≡ ((a && (b && c)) && d)
      group true true c d = refl
      group true false c d = refl
      group false b c d = refl

  -- the bit of a filter that is there
  pub filter_bit : (block kind width : Bool) (k j : ℕ) → k < map_size → j < 8
      → ((not width && leb size least_data) && (beq kind block && matches false (id_bytes (k * 8 + j)) (record { block = kind; wide = width; size = size; mask = mask; pattern = pattern })))
      ≡ (((((not width && leb size least_data) && beq kind block) && unset pattern) && byte_fits k) && bit_fits j)
  unfolding matches
  filter_bit block kind true k j h g = refl
  filter_bit block kind false k j h g = go (leb size least_data) refl
    where
      four : length (id_bytes (k * 8 + j)) ≡ least_data
      four = unfold id_bytes in refl

      regroup : (b l a w : Bool) → (b && ((l && a) && w)) ≡ (((b && l) && a) && w)
      regroup true l a w = refl
      regroup false l a w = refl

      go : (s : Bool) → leb size least_data ≡ s
          → (s && (beq kind block && ((true && leb size (length (id_bytes (k * 8 + j)))) && all_below size (fitting (id_bytes (k * 8 + j)) mask pattern))))
          ≡ ((((s && beq kind block) && unset pattern) && byte_fits k) && bit_fits j)
      go true e =
          ap₂ (λ (a b : Bool). beq kind block && (a && b)) (ap (leb size) four ∙ e) (four_bytes (id_bytes (k * 8 + j)) (leb-true _ _ e) ∙ met k j h g)
          ∙ regroup (beq kind block) (unset pattern) (byte_fits k) (bit_fits j)
      go false e = refl
