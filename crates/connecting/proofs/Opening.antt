-- An opening as code makes it, and what its answer tells of the region. Assumes nothing.
use Rattle.std.specs.Prelude.{if◌then◌else◌}
use mathlib.Core.Path.{◌≡◌, refl, sym, ap, ◌∙◌}
use Prim.Native.Nat.{ℕ, ◌≤◌}
use native.Mathlib.Omega.{arith}
use mathlib.Core.Bool.{Bool, true, false}
use mathlib.Core.List.{List, [], ◌∷◌, ◌++◌}
use lib.ListN.{length, get_or, set, drop}
use lib.Dec.{eqb}
use borrow.Author.Tests.{eq-eqb, ne_eqb, eqb-true, eqb-false}
use borrow.Rule.Slice.PartMut.{put_mid}
use Rattle.codec.specs.Word.{word}
use Rattle.layout.specs.Sizes.{flags_at, rate_at, loopback_at, number_size}
use Rattle.connecting.specs.Opening.{opening}

-- the mark, the flags and the rate, stored over the first nine bytes
abbrev pub stored : (m fs rs : List ℕ) → List ℕ
stored m fs rs = set (put_mid rate_at number_size (put_mid flags_at number_size m fs) rs) 0 1

over : (m : List ℕ) → loopback_at ≤ length m → (f r : ℕ) → stored m (word f) (word r) ≡ 1 ∷ (word f ++ (word r ++ drop loopback_at m))
unfolding word
over (m0 ∷ m1 ∷ m2 ∷ m3 ∷ m4 ∷ m5 ∷ m6 ∷ m7 ∷ m8 ∷ m) h f r = refl
over [] h f r = absurd (omega arith)
over (m0 ∷ []) h f r = absurd (omega arith)
over (m0 ∷ m1 ∷ []) h f r = absurd (omega arith)
over (m0 ∷ m1 ∷ m2 ∷ []) h f r = absurd (omega arith)
over (m0 ∷ m1 ∷ m2 ∷ m3 ∷ []) h f r = absurd (omega arith)
over (m0 ∷ m1 ∷ m2 ∷ m3 ∷ m4 ∷ []) h f r = absurd (omega arith)
over (m0 ∷ m1 ∷ m2 ∷ m3 ∷ m4 ∷ m5 ∷ []) h f r = absurd (omega arith)
over (m0 ∷ m1 ∷ m2 ∷ m3 ∷ m4 ∷ m5 ∷ m6 ∷ []) h f r = absurd (omega arith)
over (m0 ∷ m1 ∷ m2 ∷ m3 ∷ m4 ∷ m5 ∷ m6 ∷ m7 ∷ []) h f r = absurd (omega arith)

module _ (m : List ℕ) (f r : ℕ) where
  pub stays_open : (get_or m 0 0 ≡ 0 → ⊥) → (0x14, m) ≡ opening f r m
  unfolding opening
  stays_open n = rw (ne_eqb (get_or m 0 0) 0 n) refl

  pub opens : loopback_at ≤ length m → get_or m 0 0 ≡ 0 → (fs rs : List ℕ) → fs ≡ word f → rs ≡ word r → (0x00, stored m fs rs) ≡ opening f r m
  unfolding opening
  opens h z fs rs ef er =
      ap (λ (x : List ℕ). (0x00, x)) ((λ i. stored m (ef i) (er i)) ∙ over m h f r) ∙ sym (ap (λ (b : Bool). if b then (0x00, 1 ∷ (word f ++ (word r ++ drop loopback_at m))) else (0x14, m)) (eq-eqb (get_or m 0 0) 0 z))

  -- what an answer tells: refused, and the region is an open one's; or not
  pub refused_open : (code : ℕ) (ys : List ℕ) → (code, ys) ≡ opening f r m → (code ≡ 0 → ⊥) → (get_or m 0 0 ≡ 0 → ⊥) × ((code ≡ 0x14) × (ys ≡ m))
  unfolding opening
  refused_open code ys e n = by (eqb (get_or m 0 0) 0) refl
    where
      by : (b : Bool) → eqb (get_or m 0 0) 0 ≡ b → (get_or m 0 0 ≡ 0 → ⊥) × ((code ≡ 0x14) × (ys ≡ m))
      by true q = absurd (n (ap (λ (x : ℕ × List ℕ). x.0) (e ∙ ap (λ (b : Bool). if b then (0x00, 1 ∷ (word f ++ (word r ++ drop loopback_at m))) else (0x14, m)) q)))
      by false q =
          let is : (code, ys) ≡ (0x14, m) = e ∙ ap (λ (b : Bool). if b then (0x00, 1 ∷ (word f ++ (word r ++ drop loopback_at m))) else (0x14, m)) q in
          (eqb-false (get_or m 0 0) 0 q, (ap (λ (x : ℕ × List ℕ). x.0) is, ap (λ (x : ℕ × List ℕ). x.1) is))

  pub opened_now : (ys : List ℕ) → (0x00, ys) ≡ opening f r m → (get_or m 0 0 ≡ 0) × (ys ≡ 1 ∷ (word f ++ (word r ++ drop loopback_at m)))
  unfolding opening
  opened_now ys e = by (eqb (get_or m 0 0) 0) refl
    where
      by : (b : Bool) → eqb (get_or m 0 0) 0 ≡ b → (get_or m 0 0 ≡ 0) × (ys ≡ 1 ∷ (word f ++ (word r ++ drop loopback_at m)))
      by true q =
          (eqb-true (get_or m 0 0) 0 q, ap (λ (x : ℕ × List ℕ). x.1) (e ∙ ap (λ (b : Bool). if b then (0x00, 1 ∷ (word f ++ (word r ++ drop loopback_at m))) else (0x14, m)) q))
      by false q =
          let no : ◌≡◌ {A = ℕ} 0x00 0x14 = ap (λ (x : ℕ × List ℕ). x.0) (e ∙ ap (λ (b : Bool). if b then (0x00, 1 ∷ (word f ++ (word r ++ drop loopback_at m))) else (0x14, m)) q) in
          absurd (omega arith)
