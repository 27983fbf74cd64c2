-- A part that follows from another keeps the laws of codes. Assumes nothing.
use mathlib.Core.Path.{◌≡◌, refl, sym, ap, ap₂, ◌∙◌, subst}
use Prim.Native.Nat.{ℕ, ◌+◌}
use native.Mathlib.Omega.{arith}
use mathlib.Core.List.{List, [], ◌∷◌, ◌++◌, append_assoc}
use lib.ListN.{length, take, drop, length-append, take-append-drop}
use lib.Seq.{take_at, drop_at, length-take-le}
use lib.Dec.{T, eqb, eqb→eq, eqb_refl}
use Rattle.codec.specs.Code.{Code}
use Rattle.derived.specs.Derived.{same_bytes, derived}
use Rattle.codec.proofs.Tests.{left, right, join}
use Rattle.codec.proofs.Lawful.{Lawful}
use Rattle.codec.proofs.Place.{Place}

pub same_refl : (m : List ℕ) → T (same_bytes m m)
unfolding same_bytes
same_refl [] = tt
same_refl (x ∷ m) = join (eqb x x) (same_bytes m m) (eqb_refl x) (same_refl m)

pub same_eq : (m n : List ℕ) → T (same_bytes m n) → m ≡ n
unfolding same_bytes
same_eq [] [] t = refl
same_eq [] (y ∷ n) t = absurd t
same_eq (x ∷ m) [] t = absurd t
same_eq (x ∷ m) (y ∷ n) t = ap₂ (λ (a : ℕ) (b : List ℕ). a ∷ b) (eqb→eq x y (left (eqb x y) (same_bytes m n) t)) (same_eq m n (right (eqb x y) (same_bytes m n) t))

module _ {A : Type 0} (n : ℕ) (f : A → List ℕ) (fits : (x : A) → length (f x) ≡ n) {a : Code A} (la : Lawful a) where
  front : (x : A) → T (a.ok x) → take a.size (a.put x ++ f x) ≡ a.put x
  front x t = take_at (a.put x) (f x) a.size (la.long x t)

  back : (x : A) → T (a.ok x) → drop a.size (a.put x ++ f x) ≡ f x
  back x t = drop_at (a.put x) (f x) a.size (la.long x t)

  got : (x : A) → T (a.ok x) → a.get (take a.size (a.put x ++ f x)) ≡ x
  got x t = ap a.get (front x t) ∙ la.get_put x t

  first_long : (m : List ℕ) → length m ≡ a.size + n → length (take a.size m) ≡ a.size
  first_long m h = length-take-le a.size m (omega arith)

  pub derived_lawful : Lawful (derived n f a)
  unfolding derived
  derived_lawful =
      let first : List ℕ → A = λ m. a.get (take a.size m) in
      let v_a : (m : List ℕ) → T ((derived n f a).valid m) → T (a.valid (take a.size m)) = λ m t. left (a.valid (take a.size m)) (same_bytes (drop a.size m) (f (first m))) t in
      let v_b : (m : List ℕ) → T ((derived n f a).valid m) → T (same_bytes (drop a.size m) (f (first m))) = λ m t. right (a.valid (take a.size m)) (same_bytes (drop a.size m) (f (first m))) t in
      record {
        long = λ x t. length-append (a.put x) (f x) ∙ ap₂ (λ (p q : ℕ). p + q) (la.long x t) (fits x);
        get_put = got;
        valid_put =
            λ x t.
            let m : List ℕ = a.put x ++ f x in
            join (a.valid (take a.size m)) (same_bytes (drop a.size m) (f (first m)))
            (rw (front x t) (la.valid_put x t))
            (subst (λ (y : A). T (same_bytes (drop a.size m) (f y))) (sym (got x t)) (rw (back x t) (same_refl (f x))));
        put_get =
            λ m h t.
            ap₂ (λ (x y : List ℕ). x ++ y) (la.put_get (take a.size m) (first_long m h) (v_a m t)) (sym (same_eq (drop a.size m) (f (first m)) (v_b m t)))
            ∙ take-append-drop a.size m;
        ok_get = λ m h t. la.ok_get (take a.size m) (first_long m h) (v_a m t);
      }

  -- bytes that differ from those that follow are not valid
  pub derived_only : (m : List ℕ) → T ((derived n f a).valid m) → drop a.size m ≡ f ((derived n f a).get m)
  unfolding derived
  derived_only m t = same_eq (drop a.size m) (f (a.get (take a.size m))) (right (a.valid (take a.size m)) (same_bytes (drop a.size m) (f (a.get (take a.size m)))) t)

-- ---- a place in the value

module _ {A B : Type 0} (n : ℕ) (f : A → List ℕ) {c : Code A} {d : Code B} {a : A} {off : ℕ} {x : B} {w : B → A} (p : Place c d a off x w) where
  regroup : (y z : List ℕ) → (p.before ++ (y ++ p.after)) ++ z ≡ p.before ++ (y ++ (p.after ++ z))
  regroup y z = append_assoc p.before (y ++ p.after) z ∙ ap (λ (m : List ℕ). p.before ++ m) (append_assoc y p.after z)

  -- it is carried through where another part there leaves what follows
  pub in_derived : ((b : B) → f (w b) ≡ f a) → Place (derived n f c) d a off x w
  unfolding derived
  in_derived same =
      record {
        before = p.before;
        after = p.after ++ f a;
        long = p.long;
        is = ap (λ (m : List ℕ). m ++ f a) p.is ∙ regroup (d.put x) (f a);
        becomes = λ b. ap₂ (λ (m z : List ℕ). m ++ z) (p.becomes b) (same b) ∙ regroup (d.put b) (f a);
      }

  -- else what follows is made anew behind it
  pub remade : (b : B) → p.before ++ (d.put b ++ (p.after ++ f (w b))) ≡ (derived n f c).put (w b)
  unfolding derived
  remade b = sym (ap (λ (m : List ℕ). m ++ f (w b)) (p.becomes b) ∙ regroup (d.put b) (f (w b)))
