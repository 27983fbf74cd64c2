-- A message under way in its bytes, and what fits it. Assumes nothing.
use Rattle.std.specs.Prelude.{if◌then◌else◌}
use mathlib.Core.Path.{◌≡◌, refl, sym, ap, ap₂, ◌∙◌, subst}
use Prim.Native.Nat.{ℕ, zero, suc, ◌+◌, ◌-◌, ◌≤◌, ◌<◌}
use native.Mathlib.Omega.{arith}
use mathlib.Core.Bool.{Bool, true, false, not, ◌&&◌, ◌||◌}
use mathlib.Core.List.{List}
use lib.ListN.{length, get_or, take, drop, length-drop}
use lib.Dec.{T, eqb, leb, ltb}
use borrow.Author.Tests.{eq-eqb, ne_eqb}
use Rattle.codec.specs.Word.{word_at}
use Rattle.codec.specs.Code.{via, such, text}
use Rattle.codec.proofs.Tests.{left}
use Rattle.stored_records.proofs.Parts.{Bytes, rest_part}
use Rattle.link.specs.Connection.{longest, mnt, mntb, micros, Block, block_of, Out}
use Rattle.link_layout.specs.Sizes.{text_size, out_size}
use Rattle.link_layout.specs.Connection.{out_of, out_fits, out, repeats_fit, t1_fits, out_in}
use Rattle.link_checks.proofs.Parts.{block_in, sent_got, out_flat}

-- ---- what is left of T1

module _ (t1 us : ℕ) where
  pub never_ends : t1 ≡ 0xFF → eqb us 0 ≡ t1_fits t1 us
  unfolding t1_fits
  never_ends e = ap (λ (b : Bool). if b then eqb us 0 else leb us (micros t1) && (ltb 0 us || eqb (micros t1) 0)) (sym (eq-eqb t1 0xFF e))

  pub it_ends : (t1 ≡ 0xFF → ⊥) → (n : ℕ) → n ≡ micros t1 → (leb us n && (ltb 0 us || eqb n 0)) ≡ t1_fits t1 us
  unfolding t1_fits
  it_ends h n e =
      (λ j. leb us (e j) && (ltb 0 us || eqb (e j) 0))
      ∙ ap (λ (b : Bool). if b then eqb us 0 else leb us (micros t1) && (ltb 0 us || eqb (micros t1) 0)) (sym (ne_eqb t1 0xFF h))

-- ---- a message under way

module _ (m : List ℕ) (t : Bytes m) (h : length m ≡ out_size) (v : T (out.valid m)) where
  tail_is : take text_size (drop 8 m) ≡ drop 8 m
  tail_is = rest_part 8 text_size m h

  pub tail_long : length (take text_size (drop 8 m)) ≡ text_size
  tail_long = ap length tail_is ∙ length-drop 8 m ∙ omega (arith, h)

  pub tail_valid : T ((text longest).valid (take text_size (drop 8 m)))
  tail_valid =
      let w : T ((text longest).valid (drop 8 m) && out_fits (get_or m 0 0) (word_at 1 m) (block_in m t)) = subst T (out_flat m t) v in
      subst (λ (x : List ℕ). T ((text longest).valid x)) (sym tail_is) (left ((text longest).valid (drop 8 m)) (out_fits (get_or m 0 0) (word_at 1 m) (block_in m t)) w)

  out_got : out.get m ≡ out_of (get_or m 0 0) (word_at 1 m) (block_in m t)
  unfolding out via such
  out_got = ap (λ (p : ℕ × (ℕ × Block)). out_of p.0 p.1.0 p.1.1) (sent_got m t)

  module _ (t1 size : ℕ) (flying : Bool) where
    pub none_flies : get_or m 0 0 ≡ 0 → not flying ≡ out_in t1 size flying (out.get m)
    none_flies e = ap (λ (k : ℕ). out_in t1 size flying (out_of k (word_at 1 m) (block_in m t))) (sym e) ∙ ap (out_in t1 size flying) (sym out_got)

    -- the bytes of the block, and how many telegrams it has
    module _ (taken most : ℕ) (e : taken ≡ get_or m 5 0) (f : (x : List ℕ) → length x ≡ length ((text longest).get (take text_size (drop 8 m))) → most ≡ block_of size x) where
      abbrev few : Bool
      few = leb (get_or m 6 0) mnt && leb (get_or m 7 0) mntb

      block_is : most ≡ block_of size (block_in m t).rest
      block_is = f (block_in m t).rest (ap (λ (x : List ℕ). length ((text longest).get x)) (sym tail_is))

      -- T1 runs
      pub asks_is : (get_or m 0 0 ≡ 0 → ⊥) → (get_or m 0 0 ≡ 1 → ⊥) → (u : Bool) → u ≡ t1_fits t1 (word_at 1 m) → (few && not flying && eqb taken most && u) ≡ out_in t1 size flying (out.get m)
      unfolding repeats_fit
      asks_is z o u g =
          let k : suc (suc (get_or m 0 0 - 2)) ≡ get_or m 0 0 = omega arith in
          (λ j. few && not flying && eqb (e j) (block_is j) && g j)
          ∙ ap (λ (i : ℕ). out_in t1 size flying (out_of i (word_at 1 m) (block_in m t))) k
          ∙ ap (out_in t1 size flying) (sym out_got)

      -- its telegrams are sent
      sends_is : get_or m 0 0 ≡ 1 → (repeats_fit (block_in m t) && (if flying then leb taken most else ltb taken most)) ≡ out_in t1 size flying (out.get m)
      sends_is o =
          (λ j. repeats_fit (block_in m t) && (if flying then leb (e j) (block_is j) else ltb (e j) (block_is j)))
          ∙ ap (λ (i : ℕ). out_in t1 size flying (out_of i (word_at 1 m) (block_in m t))) (sym o)
          ∙ ap (out_in t1 size flying) (sym out_got)

      pub flies_is : get_or m 0 0 ≡ 1 → flying ≡ true → (few && leb taken most) ≡ out_in t1 size flying (out.get m)
      unfolding repeats_fit
      flies_is o g = ap (λ (b : Bool). few && (if b then leb taken most else ltb taken most)) (sym g) ∙ (unfold repeats_fit in sends_is o)

      pub waits_is : get_or m 0 0 ≡ 1 → flying ≡ false → (few && ltb taken most) ≡ out_in t1 size flying (out.get m)
      unfolding repeats_fit
      waits_is o g = ap (λ (b : Bool). few && (if b then leb taken most else ltb taken most)) (sym g) ∙ (unfold repeats_fit in sends_is o)
