-- What validity is of each part of a connection, as code finds it out. Assumes nothing.
use mathlib.Core.Path.{◌≡◌, refl, sym, ap, ap₂, ◌∙◌, subst}
use Prim.Native.Nat.{ℕ, ◌+◌, ◌≤◌, ◌<◌}
use native.Mathlib.Omega.{arith}
use mathlib.Core.Bool.{Bool, true, false, ◌&&◌}
use mathlib.Core.List.{List}
use lib.ListN.{length, get_or, take, drop, length-drop}
use lib.Seq.{get_or-take, drop-drop}
use lib.Dec.{T, eqb, leb}
use Rattle.codec.specs.Plain.{all, is_byte}
use Rattle.codec.specs.Word.{word_at}
use Rattle.codec.specs.Code.{Code, byte, word32, both, via, such, mark, text}
use Rattle.codec.proofs.Lists.{all_take}
use Rattle.codec.proofs.Tests.{true_T, and_true}
use Rattle.codec.proofs.Word.{word_drop}
use Rattle.stored_records.proofs.Parts.{Bytes, less, byte_valid, word_valid, both_is, rest_part, at_rest}
use Rattle.iso_stored.proofs.Rows.{number_got, number_valid, byte_got, byte_then, mark_then}
use Rattle.link.specs.Connection.{longest, mntc, Block}
use Rattle.link_layout.specs.Sizes.{text_size, out_size, hear_size}
use Rattle.link_layout.specs.Connection.{Which, trial_fits, trial, trials, exit_fits, leaves, wire_fits, wire, block_back, block, no_block, out_fits, out, ack, hear, care}
use Rattle.link_store.proofs.Stores.{counted}
use Rattle.link_checks.specs.Tagged.{by_tag}
use Rattle.link_checks.proofs.Tags.{out_tag}

-- a byte that a test limits
limited : (m : List ℕ) → Bytes m → (p : ℕ → Bool) → (such p byte).valid (take 1 m) ≡ p (get_or m 0 0)
unfolding such byte
limited m t p = ap₂ (λ (a : Bool) (k : ℕ). a && p k) (unfold byte in byte_valid (take 1 m) (all_take is_byte 1 m t)) (get_or-take 1 m 0 0 (omega arith))

module _ (m : List ℕ) (t : Bytes m) where
  -- ---- a byte that says which, with a number

  pub word_got : (j : ℕ) → word32.get (drop j m) ≡ word_at j m
  unfolding word32
  word_got j = let z : j + 0 ≡ j = omega arith in word_drop 0 j m ∙ ap (λ (k : ℕ). word_at k m) z

  which_flat : (p : ℕ × ℕ → Bool) (k j : ℕ) → k + 1 ≡ j → (such p Which).valid (drop k m) ≡ p (get_or m k 0, word_at j m)
  unfolding such
  which_flat p k j e =
      ap₂ (λ (a : Bool) (x : ℕ × ℕ). a && p x) (byte_then word32 k j m e t ∙ word_valid (drop j m) (less j m t))
      (byte_got word32 k j m e ∙ (λ i. (get_or m k 0, word_got j i)))

  pub leaves_flat : exit_fits (get_or m 0 0) (word_at 1 m) ≡ leaves.valid m
  unfolding leaves via
  leaves_flat = sym (which_flat (λ p. exit_fits p.0 p.1) 0 1 refl)

  pub wire_flat : wire_fits (get_or m 0 0) (word_at 1 m) ≡ wire.valid m
  unfolding wire via
  wire_flat = sym (which_flat (λ p. wire_fits p.0 p.1) 0 1 refl)

  pub trials_flat : (leb (get_or m 0 0) mntc && trial_fits (get_or m 1 0) (word_at 2 m)) ≡ trials.valid m
  unfolding trials trial via
  trials_flat =
      sym (both_is (such (λ n. leb n mntc) byte) trial 1 m (unfold such byte in refl)
      ∙ ap₂ (λ (a b : Bool). a && b) (limited m t (λ n. leb n mntc)) (which_flat (λ p. trial_fits p.0 p.1) 1 2 refl))

  pub care_flat : (leb (get_or m 0 0) 1 && leb (get_or m 1 0) 1) ≡ care.valid m
  unfolding care via
  care_flat =
      sym (mark_then (both mark (both byte word32)) 0 1 m refl t
      ∙ ap (λ (b : Bool). leb (get_or m 0 0) 1 && b)
      (mark_then (both byte word32) 1 2 m refl t
      ∙ ap (λ (b : Bool). leb (get_or m 1 0) 1 && b) (byte_then word32 2 3 m refl t ∙ word_valid (drop 3 m) (less 3 m t)) ∙ and_true (leb (get_or m 1 0) 1)))

  -- ---- what is sent

  abbrev Block3 : Code (ℕ × (ℕ × List ℕ))
  Block3 = both byte (both byte (text longest))

  block_got : block.get (drop 5 m) ≡ block_back (get_or m 5 0, (get_or m 6 0, (get_or m 7 0, (text longest).get (drop 8 m))))
  unfolding block via
  block_got =
      ap block_back
      (byte_got Block3 5 6 m refl ∙ (λ i. (get_or m 5 0, byte_got (both byte (text longest)) 6 7 m refl i)) ∙ (λ i. (get_or m 5 0, (get_or m 6 0, byte_got (text longest) 7 8 m refl i))))

  block_valid : block.valid (drop 5 m) ≡ (text longest).valid (drop 8 m)
  unfolding block via
  block_valid = byte_then Block3 5 6 m refl t ∙ byte_then (both byte (text longest)) 6 7 m refl t ∙ byte_then (text longest) 7 8 m refl t

  abbrev Sent : Code (ℕ × (ℕ × Block))
  Sent = both byte (both word32 block)

  abbrev pub block_in : Block
  block_in = block_back (get_or m 5 0, (get_or m 6 0, (get_or m 7 0, (text longest).get (drop 8 m))))

  pub sent_got : Sent.get m ≡ (get_or m 0 0, (word_at 1 m, block_in))
  sent_got = byte_got (both word32 block) 0 1 m refl ∙ (λ i. (get_or m 0 0, number_got block 1 5 m refl i)) ∙ (λ i. (get_or m 0 0, (word_at 1 m, block_got i)))

  sent_valid : Sent.valid m ≡ (text longest).valid (drop 8 m)
  sent_valid = byte_then (both word32 block) 0 1 m refl t ∙ number_valid block 1 5 m refl t ∙ block_valid

  pub out_flat : out.valid m ≡ ((text longest).valid (drop 8 m) && out_fits (get_or m 0 0) (word_at 1 m) block_in)
  unfolding out via such
  out_flat = ap₂ (λ (a : Bool) (p : ℕ × (ℕ × Block)). a && out_fits p.0 p.1.0 p.1.1) sent_valid sent_got

  module _ (h : length m ≡ out_size) where
    tail_is : take text_size (drop 8 m) ≡ drop 8 m
    tail_is = rest_part 8 text_size m h

    pub out_over : false ≡ (text longest).valid (take text_size (drop 8 m)) → false ≡ out.valid m
    out_over e = sym (out_flat ∙ ap (λ (b : Bool). b && out_fits (get_or m 0 0) (word_at 1 m) block_in) (ap (text longest).valid (sym tail_is) ∙ sym e))

    pub out_good : true ≡ (text longest).valid (take text_size (drop 8 m))
        → by_tag (get_or m 0 0) (eqb (word_at 1 m) 0 && (eqb (get_or m 5 0) 0 && eqb (get_or m 6 0) 0 && eqb (get_or m 7 0) 0 && eqb (word_at 8 m) 0)) (eqb (word_at 1 m) 0) true ≡ out.valid m
    unfolding no_block
    out_good e =
        let v : (text longest).valid (drop 8 m) ≡ true = ap (text longest).valid (sym tail_is) ∙ sym e in
        let long : length (drop 8 m) ≡ text_size = length-drop 8 m ∙ omega arith in
        let n : word_at 8 m ≡ length ((text longest).get (drop 8 m)) = sym (word_drop 0 8 m) ∙ counted (drop 8 m) long (true_T ((text longest).valid (drop 8 m)) v) in
        ap (λ (k : ℕ). by_tag (get_or m 0 0) (eqb (word_at 1 m) 0 && (eqb (get_or m 5 0) 0 && eqb (get_or m 6 0) 0 && eqb (get_or m 7 0) 0 && eqb k 0)) (eqb (word_at 1 m) 0) true) n
        ∙ out_tag (get_or m 0 0) (word_at 1 m) block_in
        ∙ sym (out_flat ∙ ap (λ (b : Bool). b && out_fits (get_or m 0 0) (word_at 1 m) block_in) v)

  -- ---- what is received

  ack_flat : ack.valid (take 1 (drop 1 m)) ≡ leb (get_or m 1 0) 2
  unfolding ack via
  ack_flat = limited (drop 1 m) (less 1 m t) (λ n. leb n 2) ∙ ap (λ (k : ℕ). leb k 2) (at_rest 1 m)

  pub hear_flat : length m ≡ hear_size → (leb (get_or m 1 0) 2 && (leb (get_or m 2 0) 1 && (text longest).valid (take text_size (drop 3 m)))) ≡ hear.valid m
  unfolding hear via
  hear_flat h =
      sym (byte_then (both ack (both mark (text longest))) 0 1 m refl t
      ∙ both_is ack (both mark (text longest)) 1 (drop 1 m) (unfold ack via such byte in refl)
      ∙ ap₂ (λ (a : Bool) (r : List ℕ). a && (both mark (text longest)).valid r) ack_flat (drop-drop 1 1 m)
      ∙ ap (λ (b : Bool). leb (get_or m 1 0) 2 && b)
      (mark_then (text longest) 2 3 m refl t ∙ ap (λ (r : List ℕ). leb (get_or m 2 0) 1 && (text longest).valid r) (sym (rest_part 3 text_size m h))))
