-- Laws on what a write gives. Assumes nothing.
use Prim.Native.Nat.{ℕ, suc, ◌+◌, ◌-◌, ◌≤◌}
use mathlib.Core.Path.{◌≡◌, refl, sym, ap, ◌∙◌}
use mathlib.Core.Bool.{Bool, true, false}
use mathlib.Core.List.{List, [], ◌∷◌, ◌++◌, append_assoc, append-nil}
use native.Mathlib.Omega.{arith}
use lib.ListN.{length, get_or, take, drop, length-append, length-drop, drop_of_length-le}
use lib.Seq.{take-append_seam, drop-append_seam, take_all, drop-drop}
use borrow.Author.Tests.{le-leb}
use borrow.Rule.Slice.PartMut.{put_mid}
use mir.Val.{Fits}
use mir.Syntax.{w8}
use Rattle.telegram.specs.Bits.{is_byte, are_bytes}
use Rattle.telegram.proofs.Tests.{together}
use Rattle.telegram_types.specs.Face.{over, done, refusal, written_if}

-- the test of the fields, where it holds and where it fails
pub written : (fit : Bool) (bytes buffer : List ℕ) → fit ≡ true → done bytes buffer ≡ written_if fit bytes buffer
unfolding written_if
written fit bytes buffer e = rw e

pub unwritten : (fit : Bool) (bytes buffer : List ℕ) → fit ≡ false → refusal 0x0A buffer ≡ written_if fit bytes buffer
unfolding written_if
unwritten fit bytes buffer e = rw e

-- what the code reads as bytes are bytes
pub byte : {n : ℕ} → Fits w8 n → is_byte n ≡ true
byte {n} h = le-leb n 0xFF (omega arith)

pub are_bytes_law : (b : List ℕ) → ((i : ℕ) → Fits w8 (get_or b i 0)) → are_bytes b ≡ true
unfolding are_bytes
are_bytes_law [] h = refl
are_bytes_law (x ∷ b) h = together (byte (h 0)) (are_bytes_law b (λ i. h (suc i)))

-- a head is put, and then the rest into the part behind it
module _ (head rest buffer xs ys : List ℕ) (first : xs ≡ over head buffer) (then : ys ≡ over rest (take (length xs - length head) (drop (length head) xs))) where
  behind : drop (length head) xs ≡ drop (length head) buffer
  unfolding over
  behind = ap (drop (length head)) first ∙ drop-append_seam head _

  whole : length (drop (length head) xs) ≤ length xs - length head
  whole = simp length-drop (omega arith)

  put_rest : ys ≡ rest ++ drop (length head + length rest) buffer
  unfolding over
  put_rest = then ∙ ap (λ (l : List ℕ). rest ++ drop (length rest) l) (take_all _ (drop (length head) xs) whole ∙ behind) ∙ ap (rest ++◌) (drop-drop (length rest) (length head) buffer)

  put_head : take (length head) xs ≡ head
  unfolding over
  put_head = ap (take (length head)) first ∙ take-append_seam head _

  pub over_both : put_mid (length head) (length xs - length head) xs ys ≡ over (head ++ rest) buffer
  unfolding over
  over_both =
      rw (put_head, put_rest, drop_of_length-le (drop (length head) xs) whole, append-nil, length-append head rest)
      (sym (append_assoc head rest _))
