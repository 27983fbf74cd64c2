-- Lists of pairs, one pair at a time, as the loops take them. Assumes nothing.
use mathlib.Core.Path.{◌≡◌, refl, sym, ap, ◌∙◌}
use Prim.Native.Nat.{ℕ, zero, suc, ◌≤◌, ◌<◌}
use native.Mathlib.Nat.{le_of_suc-le-suc, not-suc-le-zero}
use native.Mathlib.Omega.{arith}
use mathlib.Core.List.{List, [], ◌∷◌, ◌++◌}
use lib.ListN.{length, get_or, set, take, drop, length-drop}
use Rattle.machine.specs.Codes.{two_rates}
use Rattle.machine.specs.Limits.{most_pairs}
use Rattle.machine.specs.Channel.{Pairs, flat, get_parameter, set_parameter, get_list, set_list}
use Rattle.machine.specs.Step.{call}
use Rattle.layout.specs.Promise.{Result, gives}
use Rattle.memory.specs.Promise.{outcome}
use Rattle.memory.proofs.Lists.{Ready, set_ends as set_none_left, set_goes, set_stops, get_ends as get_none_left, get_goes, get_stops, no_value}
use Rattle.device_lists.specs.declared.Pair.{Pair}
use Rattle.device_lists.specs.Lists.{told, listed, valued, blank}
use Rattle.device_lists.proofs.Refused.{known}

-- ---- lists

-- the pairs from i on are pair i and those behind it
from_here : (i : ℕ) (l : List Pair) → i < length l → drop i l ≡ get_or l i blank ∷ drop (suc i) l
from_here i [] h = absurd (not-suc-le-zero h)
from_here zero (p ∷ l) h = refl
from_here (suc i) (p ∷ l) h = from_here i l (le_of_suc-le-suc h)

none_behind : (l : List Pair) → drop (length l) l ≡ []
none_behind [] = refl
none_behind (p ∷ l) = none_behind l

-- a pair put back where it lies
pub put_back : (i : ℕ) (l : List Pair) → i < length l → set l i (get_or l i blank) ≡ l
put_back i [] h = absurd (not-suc-le-zero h)
put_back zero (p ∷ l) h = refl
put_back (suc i) (p ∷ l) h = ap (λ (l : List Pair). p ∷ l) (put_back i l (le_of_suc-le-suc h))

-- the machine's list has as many
pub listed_length : (l : List Pair) → length (listed l) ≡ length l
listed_length [] = refl
listed_length (p ∷ l) = ap suc (listed_length l)

-- ---- set

-- what is left to do on the memory m from pair i on
abbrev pub set_from : ℕ → List Pair → ℕ → List ℕ → Result
set_from k ps i m = outcome two_rates m (call k (set_list (listed (drop i ps))))

module _ (k : ℕ) (ps : List Pair) (m : List ℕ) (r : Ready m k) where
  pub set_done : gives 0 0 [] m ≡ set_from k ps (length ps) m
  set_done = set_none_left two_rates known m k r ∙ ap (λ (l : List Pair). outcome two_rates m (call k (set_list (listed l)))) (sym (none_behind ps))

  module _ (few : length ps ≤ most_pairs) (i : ℕ) (h : i < length ps) (c : ℕ) (m' : List ℕ)
      (e : gives c 0 [] m' ≡ outcome two_rates m (call k (set_parameter (get_or ps i blank).parameter (get_or ps i blank).value))) where
    abbrev p : Pair
    p = get_or ps i blank

    short : length (told p ∷ listed (drop (suc i) ps)) ≤ most_pairs
    short = omega (arith, listed_length (drop (suc i) ps), length-drop (suc i) ps)

    abbrev from : List Pair → Result
    from l = outcome two_rates m (call k (set_list (listed l)))

    pub set_next : c ≡ 0 → Ready m' k × (set_from k ps (suc i) m' ≡ set_from k ps i m)
    set_next z = let g = set_goes two_rates known m k r (told p) (listed (drop (suc i) ps)) short c m' e z in (g.0, g.1 ∙ ap from (sym (from_here i ps h)))

    pub set_last : (c ≡ 0 → ⊥) → gives c 0 [] m' ≡ set_from k ps i m
    set_last n = set_stops two_rates known m k r (told p) (listed (drop (suc i) ps)) short c m' e n ∙ ap from (sym (from_here i ps h))

-- ---- get

-- a result, behind pairs that are done
abbrev pub behind : Pairs → Result → Result
behind ps x = gives x.code 0 (flat ps ++ x.buffer) x.memory

-- what the whole list gives on the memory m, where the first i pairs of l are done
abbrev pub get_from : ℕ → List ℕ → ℕ → List Pair → Result
get_from k m i l = behind (listed (take i l)) (outcome two_rates m (call k (get_list (listed (drop i l)))))

module _ (k : ℕ) (m : List ℕ) (r : Ready m k) where
  -- with one pair more in front
  abbrev after : Pair → Result → Result
  after p x = gives x.code 0 (p.parameter ∷ p.value ∷ x.buffer) x.memory

  pub get_next : (i : ℕ) (l : List Pair) → length l ≤ most_pairs → i < length l → (c w : ℕ) (m' : List ℕ) → gives c w [] m' ≡ outcome two_rates m (call k (get_parameter (get_or l i blank).parameter)) → c ≡ 0
      → get_from k m (suc i) (set l i (valued (get_or l i blank) w)) ≡ get_from k m i l
  unfolding flat
  get_next i [] few h c w m' e z = absurd (not-suc-le-zero h)
  get_next zero (p ∷ l) few h c w m' e z = ap (behind []) (get_goes two_rates known m k r (told p) (listed l) (omega (arith, listed_length l)) c w m' e z).1
  get_next (suc i) (p ∷ l) few h c w m' e z = ap (after p) (get_next i l (omega arith) (le_of_suc-le-suc h) c w m' e z)

  -- an accepted get leaves the memory
  pub get_kept : (i : ℕ) (l : List Pair) (c w : ℕ) (m' : List ℕ) → gives c w [] m' ≡ outcome two_rates m (call k (get_parameter (get_or l i blank).parameter)) → c ≡ 0 → m' ≡ m
  get_kept i l c w m' e z = (get_goes two_rates known m k r (told (get_or l i blank)) [] (omega arith) c w m' e z).0

  pub get_last : (i : ℕ) (l : List Pair) → length l ≤ most_pairs → i < length l → (c w : ℕ) (m' : List ℕ) → gives c w [] m' ≡ outcome two_rates m (call k (get_parameter (get_or l i blank).parameter)) → (c ≡ 0 → ⊥)
      → gives c 0 (flat (listed l)) m' ≡ get_from k m i l
  unfolding flat
  get_last i [] few h c w m' e n = absurd (not-suc-le-zero h)
  get_last zero (p ∷ l) few h c w m' e n = ap (behind []) (get_stops two_rates known m k r (told p) (listed l) (omega (arith, listed_length l)) c w m' e n)
  get_last (suc i) (p ∷ l) few h c w m' e n = ap (after p) (get_last i l (omega arith) (le_of_suc-le-suc h) c w m' e n)

  pub get_done : (l : List Pair) → gives 0 0 (flat (listed l)) m ≡ get_from k m (length l) l
  unfolding flat
  get_done [] = ap (behind []) (get_none_left two_rates known m k r)
  get_done (p ∷ l) = ap (after p) (get_done l)

  pub get_begins : (l : List Pair) → length l ≤ most_pairs → get_from k m 0 l ≡ outcome two_rates m (call k (get_list (listed l)))
  unfolding flat
  get_begins l few =
      let x : Result = outcome two_rates m (call k (get_list (listed l))) in
      λ j. gives x.code (sym (no_value two_rates known m k r (listed l) (omega (arith, listed_length l))) j) x.buffer x.memory
