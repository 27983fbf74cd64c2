-- One parameter and a list of them on a channel's configuration: the codes that there are, a list one pair at a time, and the same of the calls
-- on a channel. Assumes nothing.
use Rattle.std.specs.Prelude.{if◌then◌else◌}
use mathlib.Core.Path.{◌≡◌, refl, ap, ◌∙◌}
use Prim.Native.Nat.{ℕ, zero, suc, ◌≤◌, ◌<◌}
use native.Mathlib.Nat.{suc-ne-zero}
use mathlib.Core.Bool.{Bool, true, false}
use mathlib.Core.List.{List, [], ◌∷◌, map}
use mathlib.Core.Logic.{◌⊎◌, inl, inr}
use lib.ListN.{length}
use lib.Dec.{eqb}
use borrow.Author.Tests.{eq-eqb, ne_eqb, lt-ltb, le-ltb}
use Rattle.codec.specs.Plain.{within, member}
use Rattle.machine.specs.Codes.{code_of}
use Rattle.machine.specs.Limits.{most_pairs}
use Rattle.machine.specs.Channel.{Config, Open, opened, Pairs, flat, says, unless, get_in, set_in, set_all, get_all, set_to, list_code, on_get_list, on_set_list}

-- a code is 0 or not
pub either : (n : ℕ) → (n ≡ 0) ⊎ (n ≡ 0 → ⊥)
either zero = inl refl
either (suc n) = inr (suc-ne-zero n)

-- ---- the codes: what holds of an accepted parameter and of each refusal holds of what a configuration answers

pub set_case : (P : ℕ × Config → Type 0) (rates : List ℕ) (c : Config) (p v : ℕ) → ((c' : Config) → P (0x00, c')) → P (0x01, c) → P (0x05, c) → P (set_in rates c p v)
unfolding set_in
set_case P rates c p v done unknown bad = by (eqb p 1) (eqb p 3) (member v rates) (within 0 1 v) _ _
  where
    by : (a b d e : Bool) (x y : Config) → P (if a then (if d then (0x00, x) else (0x05, c)) else if b then (if e then (0x00, y) else (0x05, c)) else (0x01, c))
    by true b true e x y = done x
    by true b false e x y = bad
    by false true d true x y = done y
    by false true d false x y = bad
    by false false d e x y = unknown

pub get_case : (P : ℕ × ℕ → Type 0) (c : Config) (p : ℕ) → ((v : ℕ) → P (0x00, v)) → P (0x01, 0) → P (get_in c p)
unfolding get_in
get_case P c p done unknown = by (eqb p 1) (eqb p 3) _ _
  where
    by : (a b : Bool) (x y : ℕ) → P (if a then (0x00, x) else if b then (0x00, y) else (0x01, 0))
    by true b x y = done x
    by false true x y = done y
    by false false x y = unknown

pub set_all_case : (P : ℕ × Config → Type 0) (rates : List ℕ) (c : Config) (ps : Pairs) → ((c' : Config) → P (0x00, c')) → ((c' : Config) → P (0x01, c')) → ((c' : Config) → P (0x05, c')) → P (set_all rates c ps)
unfolding set_all
set_all_case P rates c [] done unknown bad = done c
set_all_case P rates c (p ∷ ps) done unknown bad =
    set_case (λ (r : ℕ × Config). P (if eqb r.0 0x00 then set_all rates r.1 ps else r)) rates c p.0 p.1
    (λ c'. set_all_case P rates c' ps done unknown bad) (unknown c) (bad c)

pub get_all_case : (P : ℕ × Pairs → Type 0) (c : Config) (ps : Pairs) → ((qs : Pairs) → P (0x00, qs)) → ((qs : Pairs) → P (0x01, qs)) → P (get_all c ps)
unfolding get_all
get_all_case P c [] done unknown = done []
get_all_case P c (p ∷ ps) done unknown =
    get_case (λ (r : ℕ × ℕ). P (if eqb r.0 0x00 then ((get_all c ps).0, (p.0, r.1) ∷ (get_all c ps).1) else (r.0, p ∷ ps))) c p.0
    (λ v. get_all_case (λ (r : ℕ × Pairs). P (r.0, (p.0, v) ∷ r.1)) c ps (λ qs. done _) (λ qs. unknown _)) (unknown _)

-- ---- a list, one pair at a time

module _ (rates : List ℕ) (c : Config) (p : ℕ × ℕ) (ps : Pairs) where
  abbrev r : ℕ × Config
  r = set_in rates c p.0 p.1

  pub set_more : r.0 ≡ 0 → set_all rates c (p ∷ ps) ≡ set_all rates r.1 ps
  unfolding set_all
  set_more e = rw (eq-eqb r.0 0 e) refl

  pub set_no_more : (r.0 ≡ 0 → ⊥) → set_all rates c (p ∷ ps) ≡ r
  unfolding set_all
  set_no_more n = rw (ne_eqb r.0 0 n) refl

module _ (c : Config) (p : ℕ × ℕ) (ps : Pairs) where
  pub get_more : (get_in c p.0).0 ≡ 0 → get_all c (p ∷ ps) ≡ ((get_all c ps).0, (p.0, (get_in c p.0).1) ∷ (get_all c ps).1)
  unfolding get_all
  get_more e = rw (eq-eqb (get_in c p.0).0 0 e) refl

  pub get_no_more : ((get_in c p.0).0 ≡ 0 → ⊥) → get_all c (p ∷ ps) ≡ ((get_in c p.0).0, p ∷ ps)
  unfolding get_all
  get_no_more n = rw (ne_eqb (get_in c p.0).0 0 n) refl

-- the parameters are never changed
pub get_keeps_parameters : (c : Config) (ps : Pairs) → map (λ (p : ℕ × ℕ). p.0) (get_all c ps).1 ≡ map (λ (p : ℕ × ℕ). p.0) ps
unfolding get_all
get_keeps_parameters c [] = refl
get_keeps_parameters c (p ∷ ps) = by (either (get_in c p.0).0) (get_keeps_parameters c ps)
  where
    first : Pairs → List ℕ
    first l = map (λ (p : ℕ × ℕ). p.0) l

    by : ((get_in c p.0).0 ≡ 0) ⊎ ((get_in c p.0).0 ≡ 0 → ⊥) → first (get_all c ps).1 ≡ first ps → first (get_all c (p ∷ ps)).1 ≡ first (p ∷ ps)
    by (inl e) rec = ap (λ (x : ℕ × Pairs). first x.1) (get_more c p ps e) ∙ ap (λ (l : List ℕ). p.0 ∷ l) rec
    by (inr n) rec = ap (λ (x : ℕ × Pairs). first x.1) (get_no_more c p ps n)

-- ---- the calls on an open channel

pub few_code : (ps : Pairs) → length ps ≤ most_pairs → list_code ps ≡ 0
unfolding list_code code_of
few_code ps h = rw (le-ltb 16 (length ps) h) refl

pub many_code : (ps : Pairs) → most_pairs < length ps → list_code ps ≡ 4
unfolding list_code code_of
many_code ps h = rw (lt-ltb 16 (length ps) h) refl

-- the list has at most 16 pairs
module _ (rates : List ℕ) (o : Open) where
  pub set_few : (ps : Pairs) → length ps ≤ most_pairs → on_set_list rates o ps ≡ set_to o (set_all rates o.config ps)
  unfolding on_set_list unless
  set_few ps h = rw (few_code ps h) refl

  pub get_few : (ps : Pairs) → length ps ≤ most_pairs → on_get_list o ps ≡ (opened o, says (get_all o.config ps).0 0 (flat (get_all o.config ps).1))
  unfolding on_get_list unless
  get_few ps h = rw (few_code ps h) refl

  pub set_many : (ps : Pairs) → most_pairs < length ps → on_set_list rates o ps ≡ (opened o, says 0x04 0 [])
  unfolding on_set_list unless
  set_many ps h = rw (many_code ps h) refl

  pub get_many : (ps : Pairs) → most_pairs < length ps → on_get_list o ps ≡ (opened o, says 0x04 0 (flat ps))
  unfolding on_get_list unless
  get_many ps h = rw (many_code ps h) refl
