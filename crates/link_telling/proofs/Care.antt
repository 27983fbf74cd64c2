-- The bytes of the connection test, when a test or an acknowledge of one came. Assumes nothing.
use mathlib.Core.Path.{◌≡◌, refl, sym, ap, ◌∙◌}
use Prim.Native.Nat.{ℕ}
use native.Mathlib.Omega.{arith}
use mathlib.Core.List.{List}
use lib.ListN.{length, set, drop, length-drop}
use lib.Seq.{length-take-le}
use lib.Dec.{T}
use borrow.Rule.Slice.PartMut.{put_mid, same_len_mid}
use Rattle.codec.specs.Word.{word}
use Rattle.codec.specs.Code.{byte, word32, both, via, such, mark}
use Rattle.link.specs.Connection.{t_test, Care}
use Rattle.link_layout.specs.Sizes.{tests_in, unanswered_in, left_in, care_size}
use Rattle.link_layout.specs.Connection.{care}
use Rattle.link_layout.proofs.Lawful.{care_lawful}
use Rattle.link_layout.proofs.Bytes.{care_size_law}
use Rattle.link_telling.specs.Telling.{care_tested, care_answered}

-- a number over the last bytes
pub left_long : (x w : List ℕ) (n : ℕ) → length x ≡ care_size → w ≡ word n → length (put_mid left_in 4 x w) ≡ length x
unfolding word
left_long x w n h q = same_len_mid left_in 4 x w (ap length q ∙ sym (length-take-le 4 (drop left_in x) (omega (arith, length-drop left_in x))))

tested_set : (c : Care) (w : List ℕ) → w ≡ word t_test → put_mid left_in 4 (set (set (care.put c) 0 1) tests_in 0) w ≡ care.put (care_tested c)
unfolding care_tested care mark such via both byte word32 word
tested_set c w q = ap (λ (x : List ℕ). put_mid left_in 4 (set (set (care.put c) 0 1) tests_in 0) x) q

answered_set : (c : Care) → set (care.put c) unanswered_in 0 ≡ care.put (care_answered c)
unfolding care_answered care mark such via both byte word32 word
answered_set c = refl

module _ (m : List ℕ) (long : length m ≡ care_size) (v : T (care.valid m)) where
  kept : care.put (care.get m) ≡ m
  kept = care_lawful.put_get m (long ∙ sym care_size_law) v

  pub tests : (w : List ℕ) → w ≡ word t_test → put_mid left_in 4 (set (set m 0 1) tests_in 0) w ≡ care.put (care_tested (care.get m))
  tests w q = ap (λ (x : List ℕ). put_mid left_in 4 (set (set x 0 1) tests_in 0) w) (sym kept) ∙ tested_set (care.get m) w q

  pub answers : set m unanswered_in 0 ≡ care.put (care_answered (care.get m))
  answers = ap (λ (x : List ℕ). set x unanswered_in 0) (sym kept) ∙ answered_set (care.get m)
