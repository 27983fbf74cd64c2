-- The three answers, from what loops over the ten places find. Assumes nothing.
use mathlib.Core.Path.{◌≡◌, refl, sym, ap, ap₂, ◌∙◌, subst}
use mathlib.Core.Logic.{⊎_elim}
use Prim.Native.Nat.{ℕ, zero, suc, ◌+◌, ◌<◌}
use native.Mathlib.Nat.{eq-or-lt_of_le, le_of_suc-le-suc}
use native.Mathlib.Numerals.{add-one}
use native.Mathlib.Omega.{arith}
use mathlib.Core.Bool.{Bool, true, false, not, ◌&&◌, ◌||◌}
use mathlib.Core.List.{List}
use lib.Dec.{eqb, leb}
use lib.Bits.{bit_and}
use lib.ListN.{get_or}
use borrow.Author.Tests.{eq-eqb, eqb-true, le-leb, leb-true}
use Rattle.machine.specs.Limits.{most_places, least_data}
use Rattle.machine.specs.Filter.{Slots, Filter}
use Rattle.machine.specs.Early.{early, drops, passes_all, must_see}
use Rattle.machine.proofs.Every.{apart}
use Rattle.cubes.proofs.Steps.{and_twice}
use Rattle.early_rule.specs.Words.{type_at, size_at, able_at, free_at, some_below, all_pass, In, Conds, Clear, Passing, Passed, Shut, SomePasses}
use Rattle.early_rule.proofs.Rule.{Free, Able, everything, nothing, some_blocked, empty_dropped}

pub both : (a b : Bool) → (a && b) ≡ true → (a ≡ true) × (b ≡ true)
both true b e = (refl, e)
both false b e = (cc, cc)

not_so : (b : Bool) → not b ≡ true → b ≡ false
not_so true e = sym e
not_so false e = refl

one_more : (P : ℕ → Type 0) (i : ℕ) → ((j : ℕ) → j < i → P j) → P i → (j : ℕ) → j < i + 1 → P j
one_more P i f p j h = ⊎_elim (λ e. subst P (sym e) p) (λ l. f j l) (eq-or-lt_of_le (le_of_suc-le-suc (subst (λ (k : ℕ). j < k) (add-one i) h)))

-- ---- a test at one of the first places

pub below_next : (p : ℕ → Bool) (f : ℕ) (b c : Bool) → b ≡ some_below f p → c ≡ p f → (b || c) ≡ some_below (f + 1) p
unfolding some_below
below_next p f b c e q = rw add-one (ap₂ (λ (x y : Bool). x || y) e q)

below_found : (p : ℕ → Bool) (n : ℕ) → some_below n p ≡ true → (j : ℕ) × (j < n) × (p j ≡ true)
unfolding some_below
below_found p zero e = absurd (apart (sym e))
below_found p (suc n) e = go (some_below n p) refl e (below_found p n)
  where
    go : (b : Bool) → some_below n p ≡ b → (b || p n) ≡ true → (some_below n p ≡ true → (j : ℕ) × (j < n) × (p j ≡ true)) → (j : ℕ) × (j < suc n) × (p j ≡ true)
    go true q e f = let w = f q in (w.0, omega (arith, w.1), w.2)
    go false q e f = (n, omega arith, e)

below_here : (p : ℕ → Bool) (n j : ℕ) → j < n → p j ≡ true → some_below n p ≡ true
unfolding some_below
below_here p zero j h e = absurd (omega arith)
below_here p (suc n) j h e =
    ⊎_elim
    (λ q. ap (λ (b : Bool). some_below n p || b) (ap p (sym q) ∙ e) ∙ last (some_below n p))
    (λ l. ap (λ (b : Bool). b || p n) (below_here p n j l e))
    (eq-or-lt_of_le (le_of_suc-le-suc h))
  where
    last : (b : Bool) → (b || true) ≡ true
    last true = refl
    last false = refl

module _ (heads ms ps : List ℕ) where
  -- ---- no pass filter by which a frame passes, so far

  pub shut_none : (j : ℕ) → j < 0 → Shut heads ms ps j
  shut_none j h = absurd (omega arith)

  pub shut_more : (f : ℕ) → ((j : ℕ) → j < f → Shut heads ms ps j) → Shut heads ms ps f → (j : ℕ) → j < f + 1 → Shut heads ms ps j
  shut_more f = one_more (Shut heads ms ps) f

  -- a pass filter that can match
  abbrev pub wanted : ℕ → Bool
  wanted f = not (eqb (type_at heads f) 2) && eqb (bit_and (get_or ps f 0) (get_or ms f 0)) (get_or ps f 0)

  pub wanted_fits : (f : ℕ) → wanted f ≡ true → bit_and (get_or ps f 0) (get_or ms f 0) ≡ get_or ps f 0
  wanted_fits f e = eqb-true _ _ (both (not (eqb (type_at heads f) 2)) _ e).1

  pub shut_unable : (f : ℕ) → wanted f ≡ false → Shut heads ms ps f
  shut_unable f e k x i c =
      let m : ℕ = get_or ms f 0 in
      apart (sym (ap₂ (λ (a b : Bool). not a && b) k (eq-eqb _ _ (ap (λ (q : ℕ). bit_and q m) (sym i) ∙ and_twice x m ∙ i))) ∙ e)

  pub shut_covered : (f : ℕ) (r : Bool) → r ≡ false → Passing heads ms ps f r → Shut heads ms ps f
  shut_covered f r e p k = p.none e

  pub one_found : (f : ℕ) (r : Bool) → f < most_places → wanted f ≡ true → r ≡ true → Passing heads ms ps f r → SomePasses heads ms ps true
  one_found f r h t e p =
      let w = p.some e in
      record {
        some = λ q. (f, record { low = h; pass = not_so _ (both (not (eqb (type_at heads f) 2)) _ t).0; x = w.0; within = w.1; clear = w.2 });
        none = λ q. absurd (apart q);
      }

  pub none_found : ((j : ℕ) → j < most_places → Shut heads ms ps j) → SomePasses heads ms ps false
  none_found f = record { some = λ q. absurd (apart (sym q)); none = λ q. f }

  -- ---- the answers

  module _ (fs : Slots Filter) (wide : Bool) (id : List ℕ) (c : Conds fs wide id heads ms ps) where
    is_free : (j : ℕ) → j < most_places → free_at heads ps j ≡ true → Free fs wide id heads ms ps c j
    unfolding free_at
    is_free j h e =
        let u = both (not (eqb (type_at heads j) 2) && leb (size_at heads j) least_data) (eqb (get_or ps j 0) 0) e in
        let v = both (not (eqb (type_at heads j) 2)) (leb (size_at heads j) least_data) u.0 in
        record { low = h; pass = not_so (eqb (type_at heads j) 2) v.0; size = leb-true _ _ v.1; pattern = eqb-true _ _ u.1 }

    was_free : (j : ℕ) → Free fs wide id heads ms ps c j → free_at heads ps j ≡ true
    unfolding free_at
    was_free j f = ap₂ (λ (a b : Bool). a && b) (ap₂ (λ (a b : Bool). not a && b) f.pass (le-leb _ _ f.size)) (eq-eqb _ _ f.pattern)

    is_able : (j : ℕ) → j < most_places → able_at heads ms ps j ≡ true → Able fs wide id heads ms ps c j
    unfolding able_at
    is_able j h e =
        let u = both (eqb (type_at heads j) 2) (eqb (bit_and (get_or ps j 0) (get_or ms j 0)) (get_or ps j 0)) e in
        record { low = h; block = u.0; fits = eqb-true _ _ u.1 }

    was_able : (j : ℕ) → Able fs wide id heads ms ps c j → able_at heads ms ps j ≡ true
    unfolding able_at
    was_able j a = ap₂ (λ (a b : Bool). a && b) a.block (eq-eqb _ _ a.fits)

    pub answer_passes : true ≡ all_pass heads ms ps → passes_all ≡ early fs wide id
    unfolding all_pass
    answer_passes e =
        let u = both (some_below most_places (free_at heads ps)) (not (some_below most_places (able_at heads ms ps))) (sym e) in
        let w = below_found (free_at heads ps) most_places u.0 in
        sym (everything fs wide id heads ms ps c w.0 (is_free w.0 w.1 w.2)
        (λ k a. apart (sym (below_here (able_at heads ms ps) most_places k a.low (was_able k a)) ∙ not_so _ u.1)))

    pub answer_see : false ≡ all_pass heads ms ps → (r : Bool) → r ≡ true → SomePasses heads ms ps r → must_see ≡ early fs wide id
    unfolding all_pass
    answer_see e r q p = let w = p.some q in sym (go (some_below most_places (able_at heads ms ps)) (some_below most_places (free_at heads ps)) refl refl w.0 w.1)
      where
        go : (a g : Bool) → some_below most_places (able_at heads ms ps) ≡ a → some_below most_places (free_at heads ps) ≡ g → (f : ℕ) → Passed heads ms ps f → early fs wide id ≡ must_see
        go true g ea eg f w =
            let v = below_found (able_at heads ms ps) most_places ea in
            some_blocked fs wide id heads ms ps c f w.x w.low w.pass w.within w.clear v.0 (is_able v.0 v.1 v.2)
        go false true ea eg f w = absurd (apart (sym (ap₂ (λ (a b : Bool). a && not b) eg ea) ∙ sym e))
        go false false ea eg f w =
            empty_dropped fs wide id heads ms ps c f w.x w.low w.pass w.within w.clear
            (λ j z. apart (sym (below_here (free_at heads ps) most_places j z.low (was_free j z)) ∙ eg))

    pub answer_drops : (r : Bool) → r ≡ false → SomePasses heads ms ps r → drops ≡ early fs wide id
    answer_drops r q p = sym (nothing fs wide id heads ms ps c (λ j h k x i o. p.none q j h k x i o))
