-- What validity is of at most 512 bytes, as code finds it out. Assumes nothing.
use mathlib.Core.Path.{◌≡◌, refl, sym, ap, ap₂, ◌∙◌, subst}
use Prim.Native.Nat.{ℕ, ◌+◌, ◌≤◌, ◌<◌}
use native.Mathlib.Omega.{arith}
use mathlib.Core.Bool.{Bool, true, false, ◌&&◌}
use mathlib.Core.List.{List}
use lib.ListN.{length, take, drop, length-drop}
use lib.Seq.{drop-drop, take_all}
use lib.Dec.{T, leb}
use borrow.Author.Tests.{le-leb, lt-leb}
use Rattle.codec.specs.Plain.{all_zero}
use Rattle.codec.specs.Word.{word_at}
use Rattle.codec.specs.Code.{Code, byte, word32, both, via, such, many, text, text_fits}
use Rattle.stored_records.proofs.Parts.{Bytes, less, row_valid, row_got}
use Rattle.iso_stored.proofs.Rows.{number_got, number_valid}
use Rattle.link.specs.Connection.{longest}
use Rattle.link_layout.specs.Sizes.{text_size}

module _ (m : List ℕ) (h : length m ≡ text_size) (t : Bytes m) where
  abbrev Row : Code (List ℕ)
  Row = many longest byte

  rest_long : length (drop 4 m) ≡ longest
  rest_long = length-drop 4 m ∙ omega arith

  parts_got : (both word32 Row).get m ≡ (word_at 0 m, drop 4 m)
  parts_got = number_got Row 0 4 m refl ∙ (λ i. (word_at 0 m, row_got longest (drop 4 m) rest_long i))

  store_flat : (text longest).valid m ≡ (leb (word_at 0 m) longest && all_zero (drop (word_at 0 m) (drop 4 m)))
  unfolding text via such text_fits
  store_flat = ap₂ (λ (a : Bool) (p : ℕ × List ℕ). a && text_fits longest p) (number_valid Row 0 4 m refl t ∙ row_valid longest (drop 4 m) (less 4 m t)) parts_got

  pub store_over : longest < word_at 0 m → false ≡ (text longest).valid m
  store_over b = sym (store_flat ∙ ap (λ (x : Bool). x && all_zero (drop (word_at 0 m) (drop 4 m))) (lt-leb (word_at 0 m) longest b))

  pub store_good : (n k : ℕ) → n ≡ word_at 0 m → n ≤ longest → text_size ≤ 4 + n + k → all_zero (take k (drop (4 + n) m)) ≡ (text longest).valid m
  store_good n k en b hk =
      let e : take k (drop (4 + n) m) ≡ drop n (drop 4 m) =
      take_all k (drop (4 + n) m) (omega (arith, length-drop (4 + n) m)) ∙ sym (drop-drop n 4 m) in
      ap₂ (λ (x : Bool) (y : List ℕ). x && all_zero y) (sym (le-leb n longest b)) e
      ∙ ap (λ (j : ℕ). leb j longest && all_zero (drop j (drop 4 m))) en ∙ sym store_flat
