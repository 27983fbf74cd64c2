-- The bytes of what is left of T3, some microseconds later. Assumes nothing.
use mathlib.Core.Path.{◌≡◌, refl, sym, ap, ◌∙◌}
use Prim.Native.Nat.{ℕ, ◌-◌, ◌<◌, ◌^◌}
use native.Mathlib.Omega.{arith}
use mathlib.Core.List.{List, [], ◌∷◌, ◌++◌}
use lib.ListN.{length, get_or, take, drop}
use lib.Dec.{T, ltb→lt}
use borrow.Rule.Slice.PartMut.{put_mid}
use Rattle.codec.specs.Word.{word, word_at}
use Rattle.codec.specs.Code.{byte, word32, both, via, such}
use Rattle.codec.proofs.Tests.{left, right}
use Rattle.codec.proofs.Word.{word_back}
use Rattle.link.specs.Connection.{Wire, spaced, carries, its_data, its_test, its_other, wire_later, Exit, due_in, due_behind, goes, exit_later}
use Rattle.link_layout.specs.Sizes.{which_size}
use Rattle.link_layout.specs.Connection.{wire_parts, wire, exit_parts, leaves}
use Rattle.link_layout.proofs.Lawful.{wire_lawful, leaves_lawful}
use Rattle.link_layout.proofs.Bytes.{wire_size, leaves_size}
use Rattle.link_starts.proofs.Laws.{again, fine, exit_tag}
use Rattle.link_ending.proofs.Ends.{wire_tag}

module _ (us : ℕ) where
  -- a number behind a byte, with so much less
  fewer : (k n : ℕ) → n < 2 ^ 32 → (x : List ℕ) → x ≡ word (word_at 0 (take 4 (drop 1 (k ∷ word n))) - us) → put_mid 1 4 (k ∷ word n) x ≡ k ∷ word (n - us)
  unfolding word
  fewer k n h x q = ap {B = List ℕ} (λ (y : List ℕ). k ∷ (y ++ [])) (q ∙ ap (λ (j : ℕ). word (j - us)) (word_back n h))

  -- the line
  wire_small : (n : ℕ) → T (wire.ok (spaced n)) → n < 2 ^ 32
  unfolding wire via such both word32
  wire_small n t = ltb→lt n (2 ^ 32) (search (left, right))

  wire_runs : (w : Wire) → T (wire.ok w) → (wire_parts w).0 ≡ 0 → (x : List ℕ) → x ≡ word (word_at 0 (take 4 (drop 1 (wire.put w))) - us) → put_mid 1 4 (wire.put w) x ≡ wire.put (wire_later us w)
  wire_runs (spaced n) t e x q = let small = wire_small n t in unfold wire_later wire via such both byte word32 in fewer 0 n small x q
  wire_runs (carries its_data) t e x q = absurd (omega arith)
  wire_runs (carries its_test) t e x q = absurd (omega arith)
  wire_runs (carries its_other) t e x q = absurd (omega arith)

  wire_rests : (w : Wire) → ((wire_parts w).0 ≡ 0 → ⊥) → wire.put w ≡ wire.put (wire_later us w)
  unfolding wire_later
  wire_rests (spaced n) d = absurd (d refl)
  wire_rests (carries k) d = refl

  -- a disconnect telegram
  exit_small : (n : ℕ) → T (leaves.ok (due_in n)) → n < 2 ^ 32
  unfolding leaves via such both word32
  exit_small n t = ltb→lt n (2 ^ 32) (search (left, right))

  exit_runs : (w : Exit) → T (leaves.ok w) → (exit_parts w).0 ≡ 0 → (x : List ℕ) → x ≡ word (word_at 0 (take 4 (drop 1 (leaves.put w))) - us) → put_mid 1 4 (leaves.put w) x ≡ leaves.put (exit_later us w)
  exit_runs (due_in n) t e x q = let small = exit_small n t in unfold exit_later leaves via such both byte word32 in fewer 0 n small x q
  exit_runs (due_behind t3) t e x q = absurd (omega arith)
  exit_runs goes t e x q = absurd (omega arith)

  exit_rests : (w : Exit) → ((exit_parts w).0 ≡ 0 → ⊥) → leaves.put w ≡ leaves.put (exit_later us w)
  unfolding exit_later
  exit_rests (due_in n) d = absurd (d refl)
  exit_rests (due_behind t3) d = refl
  exit_rests goes d = refl

  module _ (m : List ℕ) (long : length m ≡ which_size) where
    abbrev Later : List ℕ → Type 0
    Later r = (T (wire.valid m) → r ≡ wire.put (wire_later us (wire.get m))) × (T (leaves.valid m) → r ≡ leaves.put (exit_later us (leaves.get m)))

    pub runs : get_or m 0 0 ≡ 0 → (x : List ℕ) → x ≡ word (word_at 0 (take 4 (drop 1 m)) - us) → Later (put_mid 1 4 m x)
    runs e x q = (
      λ v.
          let is : wire.put (wire.get m) ≡ m = again wire_lawful which_size wire_size m long v in
          ap (λ (y : List ℕ). put_mid 1 4 y x) (sym is)
          ∙ wire_runs (wire.get m) (fine wire_lawful which_size wire_size m long v) (sym (wire_tag (wire.get m)) ∙ ap (λ (y : List ℕ). get_or y 0 0) is ∙ e) x
          (q ∙ ap (λ (y : List ℕ). word (word_at 0 (take 4 (drop 1 y)) - us)) (sym is)),
      λ v.
          let is : leaves.put (leaves.get m) ≡ m = again leaves_lawful which_size leaves_size m long v in
          ap (λ (y : List ℕ). put_mid 1 4 y x) (sym is)
          ∙ exit_runs (leaves.get m) (fine leaves_lawful which_size leaves_size m long v) (sym (exit_tag (leaves.get m)) ∙ ap (λ (y : List ℕ). get_or y 0 0) is ∙ e) x
          (q ∙ ap (λ (y : List ℕ). word (word_at 0 (take 4 (drop 1 y)) - us)) (sym is)),
    )

    pub rests : (get_or m 0 0 ≡ 0 → ⊥) → Later m
    rests d = (
      λ v.
          let is : wire.put (wire.get m) ≡ m = again wire_lawful which_size wire_size m long v in
          sym is ∙ wire_rests (wire.get m) (λ e. d (ap (λ (y : List ℕ). get_or y 0 0) (sym is) ∙ wire_tag (wire.get m) ∙ e)),
      λ v.
          let is : leaves.put (leaves.get m) ≡ m = again leaves_lawful which_size leaves_size m long v in
          sym is ∙ exit_rests (leaves.get m) (λ e. d (ap (λ (y : List ℕ). get_or y 0 0) (sym is) ∙ exit_tag (leaves.get m) ∙ e)),
    )
