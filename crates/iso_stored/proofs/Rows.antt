-- A number, a byte or a mark that begins at a place, then what follows it: what is valid, and what is got. Assumes nothing.
use mathlib.Core.Path.{◌≡◌, refl, ap, ap₂, ◌∙◌}
use Prim.Native.Nat.{ℕ, ◌+◌}
use mathlib.Core.Bool.{Bool, true, ◌&&◌}
use mathlib.Core.List.{List}
use lib.ListN.{get_or, take, drop}
use lib.Seq.{drop-drop}
use lib.Dec.{eqb, leb}
use Rattle.codec.specs.Plain.{all, is_byte}
use Rattle.codec.specs.Word.{word_at}
use Rattle.codec.specs.Code.{Code, byte, word32, both, via, such, mark}
use Rattle.codec.proofs.Lists.{all_take}
use Rattle.codec.proofs.Word.{word_part}
use Rattle.stored_records.proofs.Parts.{Bytes, less, at_part, byte_valid, behind_word, both_is, mark_is, mark_got}

module _ {B : Type 0} (c : Code B) (k j : ℕ) (m : List ℕ) where
  module _ (e : k + 4 ≡ j) where
    behind_number : drop 4 (drop k m) ≡ drop j m
    behind_number = drop-drop 4 k m ∙ ap (λ (n : ℕ). drop n m) e

    pub number_got : (both word32 c).get (drop k m) ≡ (word_at k m, c.get (drop j m))
    unfolding both word32
    number_got = λ i. (word_part k m i, c.get (behind_number i))

    pub number_valid : Bytes m → (both word32 c).valid (drop k m) ≡ c.valid (drop j m)
    number_valid t = behind_word c (drop k m) (less k m t) ∙ ap c.valid behind_number

  module _ (e : k + 1 ≡ j) where
    behind_one : drop 1 (drop k m) ≡ drop j m
    behind_one = drop-drop 1 k m ∙ ap (λ (n : ℕ). drop n m) e

    one_bytes : Bytes m → Bytes (take 1 (drop k m))
    one_bytes t = all_take is_byte 1 (drop k m) (less k m t)

    pub byte_got : (both byte c).get (drop k m) ≡ (get_or m k 0, c.get (drop j m))
    unfolding both byte
    byte_got = λ i. (at_part k m i, c.get (behind_one i))

    pub byte_then : Bytes m → (both byte c).valid (drop k m) ≡ c.valid (drop j m)
    byte_then t =
        both_is byte c 1 (drop k m) (unfold byte in refl) ∙ ap₂ (λ (a : Bool) (r : List ℕ). a && c.valid r) (byte_valid (take 1 (drop k m)) (one_bytes t)) behind_one

    mark_size : mark.size ≡ 1
    unfolding mark via such byte
    mark_size = refl

    pub mark_then_got : (both mark c).get (drop k m) ≡ (eqb 1 (get_or m k 0), c.get (drop j m))
    unfolding both mark via such byte
    mark_then_got = λ i. (eqb 1 (at_part k m i), c.get (behind_one i))

    pub mark_then : Bytes m → (both mark c).valid (drop k m) ≡ (leb (get_or m k 0) 1 && c.valid (drop j m))
    mark_then t =
        both_is mark c 1 (drop k m) mark_size
        ∙ ap₂ (λ (a : Bool) (r : List ℕ). a && c.valid r) (mark_is (take 1 (drop k m)) (one_bytes t) ∙ ap (λ (n : ℕ). leb n 1) (at_part k m)) behind_one
