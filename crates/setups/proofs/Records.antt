-- Clean records, there and back. Assumes nothing.
use Prim.Native.Nat.{ℕ, ◌+◌, ◌-◌, ◌≤◌}
use mathlib.Core.Path.{◌≡◌, refl, sym, ap, ap₂, ◌∙◌, subst}
use mathlib.Core.Bool.{Bool, true, false}
use mathlib.Core.List.{List, [], ◌∷◌}
use native.Mathlib.Omega.{arith}
use lib.Dec.{T, eqb, eqb→eq, eqb_refl}
use lib.ListN.{length, take, drop, length-append, length-replicate}
use lib.Seq.{take_at}
use Rattle.codec.specs.Plain.{zeros}
use Rattle.codec.specs.Word.{word, word_at}
use Rattle.codec.proofs.Tests.{left, right, join}
use Rattle.codec.proofs.Word.{word_back}
use Rattle.machine.specs.Message.{bit, width_flag, Rec, twelve, shown, protocol_of, tx_flags_of, size_of, wide_of, data_of, clean}
use Rattle.machine.specs.Store.{same_bytes, is_clean}
use Rattle.setups.specs.Good.{clean_rec}

pub same_sound : (xs ys : List ℕ) → T (same_bytes xs ys) → xs ≡ ys
unfolding same_bytes
same_sound [] [] t = refl
same_sound [] (y ∷ ys) t = absurd t
same_sound (x ∷ xs) [] t = absurd t
same_sound (x ∷ xs) (y ∷ ys) t =
    ap₂ {C = List ℕ} (λ (a : ℕ) (as' : List ℕ). a ∷ as') (eqb→eq x y (left (eqb x y) (same_bytes xs ys) t)) (same_sound xs ys (right (eqb x y) (same_bytes xs ys) t))

pub same_refl : (xs : List ℕ) → T (same_bytes xs xs)
unfolding same_bytes
same_refl [] = tt
same_refl (x ∷ xs) = join (eqb x x) (same_bytes xs xs) (eqb_refl x) (same_refl xs)

pub twelve_long : (b : List ℕ) → length b ≤ 12 → length (twelve b) ≡ 12
unfolding twelve
twelve_long b h = length-append b (zeros (12 - length b)) ∙ ap (λ (k : ℕ). length b + k) (length-replicate (12 - length b) 0) ∙ omega arith

module _ (wide : Bool) (b : List ℕ) (h : length b ≤ 12) where
  pub shown_long : length (shown (clean_rec wide b)) ≡ 36
  unfolding shown word
  shown_long = omega (arith, twelve_long b h)

  pub shown_protocol : protocol_of (shown (clean_rec wide b)) ≡ 5
  unfolding shown word protocol_of word_at
  shown_protocol = refl

  pub shown_size : size_of (shown (clean_rec wide b)) ≡ length b
  unfolding shown word size_of word_at
  shown_size = word_back (length b) (omega arith)

  pub shown_data : data_of (shown (clean_rec wide b)) ≡ b
  unfolding data_of
  shown_data = ap (λ (n : ℕ). take n (drop 24 (shown (clean_rec wide b)))) shown_size ∙ rest
    where
      rest : take (length b) (drop 24 (shown (clean_rec wide b))) ≡ b
      rest = unfold shown word twelve in take_at b (zeros (12 - length b)) (length b) refl

pub shown_flags : (wide : Bool) (b : List ℕ) → tx_flags_of (shown (clean_rec wide b)) ≡ width_flag wide
unfolding shown word tx_flags_of word_at width_flag
shown_flags true b = refl
shown_flags false b = refl

pub shown_wide : (wide : Bool) (b : List ℕ) → wide_of (shown (clean_rec wide b)) ≡ wide
unfolding shown word tx_flags_of word_at width_flag wide_of bit
shown_wide true b = refl
shown_wide false b = refl

pub clean_back : (wide : Bool) (b : List ℕ) → length b ≤ 12 → clean (shown (clean_rec wide b)) ≡ clean_rec wide b
unfolding clean
clean_back wide b h = ap₂ (λ (w : Bool) (d : List ℕ). clean_rec w d) (shown_wide wide b) (shown_data wide b h)

pub shown_clean : (wide : Bool) (b : List ℕ) → length b ≤ 12 → T (is_clean (shown (clean_rec wide b)))
unfolding is_clean
shown_clean wide b h = subst (λ (r : Rec). T (same_bytes (shown (clean_rec wide b)) (shown r))) (sym (clean_back wide b h)) (same_refl (shown (clean_rec wide b)))
