-- What validity is of a part where every byte is one: words are always valid, a mark is at most 1, and parts lie in a row. Assumes nothing.
use mathlib.Core.Path.{◌≡◌, refl, sym, ap, ◌∙◌, subst}
use Prim.Native.Nat.{ℕ, zero, suc, ◌+◌, ◌≤◌}
use native.Mathlib.Nat.{suc-ne-zero, suc_inj}
use native.Mathlib.Omega.{arith}
use mathlib.Core.Bool.{Bool, true, ◌&&◌}
use mathlib.Core.List.{List, [], ◌∷◌}
use lib.ListN.{length, get_or, take, drop, length-drop}
use lib.Seq.{get_or-take, get_or-drop, take-take, take_all}
use lib.Dec.{T, leb, eqb}
use Rattle.codec.specs.Plain.{all, is_byte, zeros, all_zero}
use Rattle.codec.specs.Code.{Code, byte, word32, both, via, such, mark, many, get_all, valid_all}
use Rattle.codec.proofs.Tests.{left, right, T_true, true_T}
use Rattle.codec.proofs.Lists.{all_at, all_take, all_drop, zeros_of}
use Rattle.codec.proofs.Lawful.{Lawful}

abbrev pub Bytes : List ℕ → Type 0
Bytes m = T (all is_byte m)

pub less : (k : ℕ) (m : List ℕ) → Bytes m → Bytes (drop k m)
less k m t = all_drop is_byte k m t

-- the rest of a list is a part of it
pub rest_part : (k n : ℕ) (m : List ℕ) → length m ≡ k + n → take n (drop k m) ≡ drop k m
rest_part k n m h = take_all n (drop k m) (omega (arith, length-drop k m))

-- a part of a part that holds it
pub part_within : (j k l : ℕ) (m : List ℕ) → j + k ≤ l → take k (drop j (take l m)) ≡ take k (drop j m)
part_within zero k l m h = take-take k l m (omega arith)
part_within (suc j) k zero m h = absurd (omega arith)
part_within (suc j) k (suc l) [] h = refl
part_within (suc j) k (suc l) (x ∷ m) h = part_within j k l m (omega arith)

pub at_part : (k : ℕ) (m : List ℕ) → get_or (take 1 (drop k m)) 0 0 ≡ get_or m k 0
at_part k m =
    let z : k + 0 ≡ k = omega arith in
    get_or-take 1 (drop k m) 0 0 (omega arith) ∙ get_or-drop k m 0 0 ∙ ap (λ (j : ℕ). get_or m j 0) z

pub at_rest : (k : ℕ) (m : List ℕ) → get_or (drop k m) 0 0 ≡ get_or m k 0
at_rest k m = let z : k + 0 ≡ k = omega arith in get_or-drop k m 0 0 ∙ ap (λ (j : ℕ). get_or m j 0) z

-- ---- bytes and words are always valid

bytes_valid : (n : ℕ) (m : List ℕ) → Bytes m → valid_all byte n m ≡ true
unfolding byte
bytes_valid zero m t = refl
bytes_valid (suc n) [] t = bytes_valid n [] t
bytes_valid (suc n) (x ∷ m) t = rw (T_true (is_byte x) (left (is_byte x) (all is_byte m) t)) (bytes_valid n m (right (is_byte x) (all is_byte m) t))

bytes_got : (n : ℕ) (m : List ℕ) → length m ≡ n → get_all byte n m ≡ m
unfolding byte
bytes_got zero [] h = refl
bytes_got zero (x ∷ m) h = absurd (suc-ne-zero (length m) h)
bytes_got (suc n) [] h = absurd (suc-ne-zero n (sym h))
bytes_got (suc n) (x ∷ m) h = ap {B = List ℕ} (λ (r : List ℕ). x ∷ r) (bytes_got n m (suc_inj h))

pub row_valid : (n : ℕ) (m : List ℕ) → Bytes m → (many n byte).valid m ≡ true
unfolding many
row_valid n m t = bytes_valid n m t

pub row_got : (n : ℕ) (m : List ℕ) → length m ≡ n → (many n byte).get m ≡ m
unfolding many
row_got n m h = bytes_got n m h

pub byte_valid : (m : List ℕ) → Bytes m → byte.valid m ≡ true
unfolding byte
byte_valid m t = T_true (is_byte (get_or m 0 0)) (all_at is_byte m 0 0 tt t)

pub word_valid : (m : List ℕ) → Bytes m → word32.valid m ≡ true
unfolding word32
word_valid m t = T_true (all is_byte m) t

pub behind_word : {B : Type 0} (c : Code B) (m : List ℕ) → Bytes m → (both word32 c).valid m ≡ c.valid (drop 4 m)
unfolding both word32
behind_word c m t = ap (λ (b : Bool). b && c.valid (drop 4 m)) (T_true (all is_byte (take 4 m)) (all_take is_byte 4 m t))

-- ---- parts in a row; a mark

pub both_is : {A B : Type 0} (a : Code A) (b : Code B) (j : ℕ) (m : List ℕ) → a.size ≡ j → (both a b).valid m ≡ (a.valid (take j m) && b.valid (drop j m))
unfolding both
both_is a b j m e = ap (λ (k : ℕ). a.valid (take k m) && b.valid (drop k m)) e

pub mark_is : (m : List ℕ) → Bytes m → mark.valid m ≡ leb (get_or m 0 0) 1
unfolding mark via such byte
mark_is m t = ap (λ (b : Bool). b && leb (get_or m 0 0) 1) (T_true (is_byte (get_or m 0 0)) (all_at is_byte m 0 0 tt t))

pub mark_got : (m : List ℕ) → mark.get m ≡ eqb 1 (get_or m 0 0)
unfolding mark via such byte
mark_got m = refl

-- ---- zeros, where they are what a value is put as

pub zeros_good : {A : Type 0} {c : Code A} → Lawful c → (x : A) (n : ℕ) (m : List ℕ) → T (c.ok x) → c.put x ≡ zeros n → length m ≡ n → all_zero m ≡ true → true ≡ c.valid m
zeros_good {c} l x n m t e h z =
    sym (T_true (c.valid m) (subst (λ (y : List ℕ). T (c.valid y)) (e ∙ ap (λ (k : ℕ). zeros k) (sym h) ∙ zeros_of m (true_T (all_zero m) z)) (l.valid_put x t)))
