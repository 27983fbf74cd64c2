-- Keeping those that pass a test: of a sequence and its parts, twice, by two tests. Assumes nothing.
use Rattle.std.specs.Prelude.{if◌then◌else◌}
use Prim.Native.Nat.{ℕ, zero, suc, ◌<◌}
use mathlib.Core.Path.{◌≡◌, refl, sym, ap, ◌∙◌, subst}
use mathlib.Core.Logic.{◌≢◌}
use mathlib.Core.Bool.{Bool, true, false, not}
use mathlib.Core.List.{List, [], ◌∷◌, ◌++◌}
use native.Mathlib.Omega.{arith}
use borrow.Author.Tests.{eqb-true, eqb-false}
use lib.Dec.{T, eqb}
use Rattle.codec.specs.Plain.{all, all_below}
use Rattle.codec.proofs.Tests.{left, right, true_T}
use Rattle.machine.specs.Step.{Event}
use Rattle.whole.specs.Device.{channels}
use Rattle.whole.specs.Demands.{concerns, strike}
use Rattle.shifts.specs.Shifts.{Numbered, events, keep, of_channel, nobodys}

-- ---- one test

module _ (p : Numbered → Bool) where
  pub keep_append : (xs ys : List Numbered) → keep p (xs ++ ys) ≡ keep p xs ++ keep p ys
  unfolding keep
  keep_append [] ys = refl
  keep_append (c ∷ xs) ys = by (p c) (keep_append xs ys)
    where
      by : (b : Bool) → keep p (xs ++ ys) ≡ keep p xs ++ keep p ys
          → (if b then c ∷ keep p (xs ++ ys) else keep p (xs ++ ys)) ≡ (if b then c ∷ keep p xs else keep p xs) ++ keep p ys
      by true h = ap (λ (l : List Numbered). c ∷ l) h
      by false h = h

  pub keep_yes : (c : Numbered) (cs : List Numbered) → p c ≡ true → keep p (c ∷ cs) ≡ c ∷ keep p cs
  unfolding keep
  keep_yes c cs h = rw h refl

  pub keep_no : (c : Numbered) (cs : List Numbered) → p c ≡ false → keep p (c ∷ cs) ≡ keep p cs
  unfolding keep
  keep_no c cs h = rw h refl

  pub keep_twice : (cs : List Numbered) → keep p (keep p cs) ≡ keep p cs
  unfolding keep
  keep_twice [] = refl
  keep_twice (c ∷ cs) = by (p c) refl (keep_twice cs)
    where
      by : (b : Bool) → p c ≡ b → keep p (keep p cs) ≡ keep p cs → keep p (if b then c ∷ keep p cs else keep p cs) ≡ (if b then c ∷ keep p cs else keep p cs)
      by true q h = keep_yes c (keep p cs) q ∙ ap (λ (l : List Numbered). c ∷ l) h
      by false q h = h

-- ---- two tests

-- their order plays no part
pub keep_both : (p q : Numbered → Bool) (cs : List Numbered) → keep p (keep q cs) ≡ keep q (keep p cs)
unfolding keep
keep_both p q [] = refl
keep_both p q (c ∷ cs) = by (p c) refl (q c) refl (keep_both p q cs)
  where
    by : (a : Bool) → p c ≡ a → (b : Bool) → q c ≡ b → keep p (keep q cs) ≡ keep q (keep p cs)
        → keep p (if b then c ∷ keep q cs else keep q cs) ≡ keep q (if a then c ∷ keep p cs else keep p cs)
    by true x true y h = keep_yes p c (keep q cs) x ∙ ap (λ (l : List Numbered). c ∷ l) h ∙ sym (keep_yes q c (keep p cs) y)
    by true x false y h = h ∙ sym (keep_no q c (keep p cs) y)
    by false x true y h = keep_no p c (keep q cs) x ∙ h
    by false x false y h = h

-- where no event of the sequence passes both, nothing is left
pub keep_neither : (p q s : Numbered → Bool) → ((c : Numbered) → T (s c) → T (p c) → T (q c) → ⊥) → (cs : List Numbered) → T (all s cs)
    → keep p (keep q cs) ≡ []
unfolding keep
keep_neither p q s apart [] t = refl
keep_neither p q s apart (c ∷ cs) t = by (q c) refl (p c) refl (keep_neither p q s apart cs (right (s c) (all s cs) t))
  where
    by : (b : Bool) → q c ≡ b → (a : Bool) → p c ≡ a → keep p (keep q cs) ≡ [] → keep p (if b then c ∷ keep q cs else keep q cs) ≡ []
    by true y true x h = absurd (apart c (left (s c) (all s cs) t) (true_T (p c) x) (true_T (q c) y))
    by true y false x h = keep_no p c (keep q cs) x ∙ h
    by false y a x h = h

-- ---- the events of a channel

pub channel_strike : (i : ℕ) (cs : List Numbered) → events (of_channel i cs) ≡ strike i (events cs)
unfolding events of_channel keep strike
channel_strike i [] = refl
channel_strike i (c ∷ cs) = by (concerns i c.1) (channel_strike i cs)
  where
    by : (b : Bool) → events (of_channel i cs) ≡ strike i (events cs)
        → events (if b then c ∷ of_channel i cs else of_channel i cs) ≡ (if b then c.1 ∷ strike i (events cs) else strike i (events cs))
    by true h = ap (λ (l : List Event). c.1 ∷ l) h
    by false h = h

-- ---- events that concern no channel

all_below_law : (n i : ℕ) (p : ℕ → Bool) → i < n → T (all_below n p) → T (p i)
unfolding all_below
all_below_law zero i p h t = absurd (omega arith)
all_below_law (suc n) i p h t = by (eqb i n) refl (λ l. all_below_law n i p l (left (all_below n p) _ t))
  where
    by : (b : Bool) → eqb i n ≡ b → (i < n → T (p i)) → T (p i)
    by true q more = subst (λ (k : ℕ). T (p k)) (sym (eqb-true i n q)) (right (all_below n p) (p n) t)
    by false q more = let ne : i ≢ n = eqb-false i n q in more (omega arith)

pub nobodys_none : (e : Event) → nobodys e ≡ true → (i : ℕ) → i < channels → concerns i e ≡ false
unfolding nobodys
nobodys_none e h i k = by (concerns i e) (all_below_law channels i (λ j. not (concerns j e)) k (true_T _ h))
  where
    by : (b : Bool) → T (not b) → b ≡ false
    by true t = absurd t
    by false t = refl

-- a place below n whose channel the event concerns
pub record Concerned (n : ℕ) (e : Event) : Type 0 where
  pub place : ℕ
  pub low : place < n
  pub it : concerns place e ≡ true

found : (n : ℕ) (e : Event) → all_below n (λ i. not (concerns i e)) ≡ false → Concerned n e
unfolding all_below
found zero e h = absurd (subst T h tt)
found (suc n) e h = by (all_below n (λ i. not (concerns i e))) refl (concerns n e) refl (found n e)
  where
    by : (b : Bool) → all_below n (λ i. not (concerns i e)) ≡ b → (a : Bool) → concerns n e ≡ a → (all_below n (λ i. not (concerns i e)) ≡ false → Concerned n e) → Concerned (suc n) e
    by false q a x more = let r = more q in let l = r.low in record { place = r.place; low = omega arith; it = r.it }
    by true q true x more = record { place = n; low = omega arith; it = x }
    by true q false x more = absurd (subst T h (rw q (rw x tt)))

pub somebodys : (e : Event) → nobodys e ≡ false → Concerned channels e
unfolding nobodys
somebodys e h = found channels e h
