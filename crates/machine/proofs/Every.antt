-- Every data of 0 to 8 bytes: what a test of all of them tells, and the three answers. Assumes nothing.
use Rattle.std.specs.Prelude.{if◌then◌else◌}
use mathlib.Core.Path.{◌≡◌, refl, sym, ap, ◌∙◌}
use mathlib.Core.Logic.{◌⊎◌, inl, inr, ⊎_elim}
use Prim.Native.Nat.{ℕ, zero, suc, ◌<◌}
use native.Mathlib.Nat.{eq-or-lt_of_le, le_of_suc-le-suc, not-suc-le-zero}
use native.Mathlib.Omega.{arith}
use mathlib.Core.Bool.{Bool, true, false, not, ◌&&◌}
use mathlib.Core.List.{List, [], ◌∷◌, ◌++◌}
use lib.Dec.{T, ltb→lt, lt→ltb}
use lib.ListN.{length}
use Rattle.codec.specs.Plain.{all, is_byte, all_below}
use Rattle.codec.proofs.Tests.{left, right, join}
use Rattle.machine.specs.Filter.{Slots, Filter, passes}
use Rattle.machine.specs.Message.{width_flag, id_bytes, takes, received}
use Rattle.machine.specs.Channel.{Open, opened, arrive, lets_in, offered, decided}
use Rattle.machine.specs.Early.{all_data, every_data, Early, drops, passes_all, must_see, early, Data, Exactly}

pub apart : true ≡ false → ⊥
apart e = let z : ◌≡◌ {A = ℕ} 0 1 = cc in omega arith

both : (a b : Bool) → (a && b) ≡ true → (a ≡ true) × (b ≡ true)
both true b e = (refl, e)
both false b e = (cc, cc)

one_of : (a b : Bool) → (a && b) ≡ false → (b ≡ false) ⊎ (a ≡ false)
one_of true b e = inl e
one_of false b e = inr refl

-- ---- every number below n

module _ (p : ℕ → Bool) where
  pub below_all : (n : ℕ) → ((k : ℕ) → k < n → p k ≡ true) → all_below n p ≡ true
  unfolding all_below
  below_all zero f = refl
  below_all (suc n) f = rw (below_all n (λ k h. f k (omega arith)), f n (omega arith))

  pub below_at : (n k : ℕ) → all_below n p ≡ true → k < n → p k ≡ true
  unfolding all_below
  below_at zero k e h = absurd (not-suc-le-zero h)
  below_at (suc n) k e h = let b = both (all_below n p) (p n) e in ⊎_elim (λ q. ap p q ∙ b.1) (λ l. below_at n k b.0 l) (eq-or-lt_of_le (le_of_suc-le-suc h))

  pub below_find : (n : ℕ) → all_below n p ≡ false → (k : ℕ) × (k < n) × (p k ≡ false)
  unfolding all_below
  below_find zero e = absurd (apart e)
  below_find (suc n) e =
      ⊎_elim {C = (k : ℕ) × (k < suc n) × (p k ≡ false)}
      (λ q. (n, omega arith, q))
      (λ q. let w = below_find n q in (w.0, omega (arith, w.1), w.2))
      (one_of (all_below n p) (p n) e)

-- ---- every data

pub data_all : (n : ℕ) (p : List ℕ → Bool) → ((d : List ℕ) → length d ≡ n → T (all is_byte d) → p d ≡ true) → all_data n p ≡ true
unfolding all_data
data_all zero p f = f [] refl tt
data_all (suc n) p f =
    below_all (λ b. all_data n (λ d. p (b ∷ d))) 256 (λ b h. data_all n (λ d. p (b ∷ d)) (λ d l t. f (b ∷ d) (ap suc l) (join (is_byte b) (all is_byte d) (lt→ltb b 256 h) t)))

pub data_at : (n : ℕ) (p : List ℕ → Bool) (d : List ℕ) → all_data n p ≡ true → length d ≡ n → T (all is_byte d) → p d ≡ true
unfolding all_data
data_at zero p [] e l t = e
data_at zero p (b ∷ d) e l t = absurd (omega arith)
data_at (suc n) p [] e l t = absurd (omega arith)
data_at (suc n) p (b ∷ d) e l t =
    data_at n (λ d. p (b ∷ d)) d (below_at (λ b. all_data n (λ d. p (b ∷ d))) 256 b e (ltb→lt b 256 (left (is_byte b) (all is_byte d) t))) (omega arith) (right (is_byte b) (all is_byte d) t)

pub data_find : (n : ℕ) (p : List ℕ → Bool) → all_data n p ≡ false → (d : List ℕ) × (length d ≡ n) × T (all is_byte d) × (p d ≡ false)
unfolding all_data
data_find zero p e = ([], refl, tt, e)
data_find (suc n) p e =
    let w = below_find (λ b. all_data n (λ d. p (b ∷ d))) 256 e in
    let v = data_find n (λ d. p (w.0 ∷ d)) w.2 in
    (w.0 ∷ v.0, ap suc v.1, join (is_byte w.0) (all is_byte v.0) (lt→ltb w.0 256 w.1) v.2, v.3)

module _ (p : List ℕ → Bool) where
  pub every_all : ((d : List ℕ) → Data d → p d ≡ true) → every_data p ≡ true
  unfolding every_data
  every_all f = below_all (λ n. all_data n p) 9 (λ n h. data_all n p (λ d l t. f d (record { short = omega arith; bytes = t })))

  pub every_at : every_data p ≡ true → (d : List ℕ) → Data d → p d ≡ true
  unfolding every_data
  every_at e d k = data_at (length d) p d (below_at (λ n. all_data n p) 9 (length d) e (omega (arith, k.short))) refl k.bytes

  pub every_find : every_data p ≡ false → (d : List ℕ) × Data d × (p d ≡ false)
  unfolding every_data
  every_find e =
      let w = below_find (λ n. all_data n p) 9 e in
      let v = data_find w.0 p w.2 in
      (v.0, record { short = omega (arith, w.1, v.1); bytes = v.2 }, v.3)

  pub every_not : (d : List ℕ) → Data d → p d ≡ false → every_data p ≡ false
  every_not d k e = go (every_data p) refl
    where
      go : (b : Bool) → every_data p ≡ b → b ≡ false
      go true q = absurd (apart (sym (every_at q d k) ∙ e))
      go false q = refl

pub no_data : Data []
no_data = record { short = omega arith; bytes = tt }

-- ---- the three answers

not_not : (b : Bool) → not b ≡ true → b ≡ false
not_not true e = sym e
not_not false e = refl

not_was : (b : Bool) → not b ≡ false → b ≡ true
not_was true e = refl
not_was false e = sym e

module _ (fs : Slots Filter) (wide : Bool) (id : List ℕ) where
  abbrev Ok : List ℕ → Bool
  Ok d = passes fs wide (id ++ d)

  abbrev chosen : Bool → Bool → Early
  chosen a b = if a then passes_all else if b then drops else must_see

  pub all_pass : ((d : List ℕ) → Data d → Ok d ≡ true) → early fs wide id ≡ passes_all
  unfolding early
  all_pass f = ap (λ (a : Bool). chosen a (every_data (λ d. not (Ok d)))) (every_all Ok f)

  pub all_drop : ((d : List ℕ) → Data d → Ok d ≡ false) → early fs wide id ≡ drops
  unfolding early
  all_drop f =
      ap (λ (a : Bool). chosen a (every_data (λ d. not (Ok d)))) (every_not Ok [] no_data (f [] no_data))
      ∙ ap (λ (b : Bool). chosen false b) (every_all (λ d. not (Ok d)) (λ d k. ap not (f d k)))

  pub some_differ : (d e : List ℕ) → Data d → Data e → Ok d ≡ true → Ok e ≡ false → early fs wide id ≡ must_see
  unfolding early
  some_differ d e k l p q =
      ap (λ (a : Bool). chosen a (every_data (λ d. not (Ok d)))) (every_not Ok e l q)
      ∙ ap (λ (b : Bool). chosen false b) (every_not (λ d. not (Ok d)) d k (ap not p))

  cases : (a b : Bool) → every_data Ok ≡ a → every_data (λ d. not (Ok d)) ≡ b → Exactly (early fs wide id) Ok
  unfolding early
  cases a b x y =
      let is : early fs wide id ≡ chosen a b = ap (λ (a : Bool). chosen a (every_data (λ d. not (Ok d)))) x ∙ ap (λ (b : Bool). chosen a b) y in
      record { passing = λ e. go1 a b x (sym is ∙ e); dropping = λ e. go2 a b y (sym is ∙ e); differing = λ e. go3 a b x y (sym is ∙ e); only = differ }
    where
      go1 : (a b : Bool) → every_data Ok ≡ a → chosen a b ≡ passes_all → (d : List ℕ) → Data d → Ok d ≡ true
      go1 true b x e = every_at Ok x
      go1 false true x e = λ d k. cc
      go1 false false x e = λ d k. cc

      go2 : (a b : Bool) → every_data (λ d. not (Ok d)) ≡ b → chosen a b ≡ drops → (d : List ℕ) → Data d → Ok d ≡ false
      go2 true b y e = λ d k. cc
      go2 false true y e = λ d k. not_not (Ok d) (every_at (λ d. not (Ok d)) y d k)
      go2 false false y e = λ d k. cc

      go3 : (a b : Bool) → every_data Ok ≡ a → every_data (λ d. not (Ok d)) ≡ b → chosen a b ≡ must_see
          → (d : List ℕ) × (e : List ℕ) × Data d × Data e × (Ok d ≡ true) × (Ok e ≡ false)
      go3 true b x y e = absurd (let z : ◌≡◌ {A = ℕ} 0 1 = cc in omega arith)
      go3 false true x y e = absurd (let z : ◌≡◌ {A = ℕ} 0 1 = cc in omega arith)
      go3 false false x y e =
          let v = every_find Ok x in
          let w = every_find (λ d. not (Ok d)) y in
          (w.0, v.0, w.1, v.1, not_was (Ok w.0) w.2, v.2)

      pick : (d e : List ℕ) → Data d → Data e → (a b : Bool) → Ok d ≡ a → Ok e ≡ b → (a ≡ b → ⊥) → early fs wide id ≡ must_see
      pick d e k l true true p q n = absurd (n refl)
      pick d e k l true false p q n = some_differ d e k l p q
      pick d e k l false true p q n = some_differ e d l k q p
      pick d e k l false false p q n = absurd (n refl)

      differ : (d e : List ℕ) → Data d → Data e → (Ok d ≡ Ok e → ⊥) → early fs wide id ≡ must_see
      differ d e k l n = pick d e k l (Ok d) (Ok e) refl refl n

  -- the answer is exact, whatever the filters are
  pub exactly : Exactly (early fs wide id) Ok
  exactly = cases (every_data Ok) (every_data (λ d. not (Ok d))) refl refl

-- ---- the channel's answer

no_drop : {a : Type 0} → drops ≡ passes_all → a
no_drop e = absurd (let z : ◌≡◌ {A = ℕ} 0 1 = cc in omega arith)

no_sight : {a : Type 0} → drops ≡ must_see → a
no_sight e = absurd (let z : ◌≡◌ {A = ℕ} 0 1 = cc in omega arith)

module _ (o : Open) (wide : Bool) (id : ℕ) where
  -- it is exact for the channel's verdict, with the width that the connection doesn't take among what is dropped
  pub decided_exactly : Exactly (decided o wide id) (λ d. lets_in o wide (id_bytes id ++ d))
  unfolding decided
  decided_exactly = by (takes o.config.flags wide)
    where
      by : (t : Bool) → Exactly (if t then early o.filters wide (id_bytes id) else drops) (λ d. t && passes o.filters wide (id_bytes id ++ d))
      by true = exactly o.filters wide (id_bytes id)
      by false =
          record { passing = λ e. no_drop e; dropping = λ e d k. refl; differing = λ e. no_sight e; only = λ d e k l n. absurd (n refl) }

  -- so every good frame of that width and identifier is queued, or none is
  pub passes_queued : decided o wide id ≡ passes_all → (now : ℕ) (d : List ℕ) → Data d
      → offered now o wide (id_bytes id ++ d) ≡ arrive o (received now (width_flag wide) (id_bytes id ++ d))
  unfolding offered
  passes_queued e now d k = rw (decided_exactly.passing e d k)

  pub dropped_stays : decided o wide id ≡ drops → (now : ℕ) (d : List ℕ) → Data d → offered now o wide (id_bytes id ++ d) ≡ opened o
  unfolding offered
  dropped_stays e now d k = rw (decided_exactly.dropping e d k)
