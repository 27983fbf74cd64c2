-- The heads of the filters that stay in the list beside the maps, and the ten filters that they are the heads of. Assumes nothing.
use Rattle.std.specs.Prelude.{if◌then◌else◌}
use mathlib.Core.Path.{◌≡◌, refl, sym, ap, ap₂, subst, ◌∙◌}
use Prim.Native.Nat.{ℕ, zero, suc, ◌+◌, ◌*◌, ◌≤◌, ◌<◌}
use native.Mathlib.Nat.{eq-or-lt_of_le}
use native.Mathlib.Omega.{arith}
use mathlib.Core.Logic.{⊎_elim}
use mathlib.Core.Bool.{Bool, true, false, not, ◌&&◌}
use mathlib.Core.Option.{Option, none, some}
use mathlib.Core.List.{List, [], ◌∷◌}
use lib.Dec.{eqb, leb}
use borrow.Author.Tests.{eqb-true, eqb-false}
use lib.ListN.{length, get_or, set, take, drop, length-set}
use lib.Seq.{get_or-take, ext_get_or, length-take-le, get_or-set_same, get_or-set_other}
use Rattle.machine.specs.Limits.{most_places, most_data, least_data}
use Rattle.machine.specs.Filter.{Slots, Filter}
use Rattle.map_rule.specs.Map.{in_map, kept, others}
use Rattle.layout.specs.Sizes.{widths_in, sizes_in, masks_in, patterns_in, filters_size}
use Rattle.layout.specs.Memory.{filter_back, filters}
use Rattle.maps.specs.Chosen.{mapped_at}
use Rattle.filterbank.specs.Part.{FilterPart}
use Rattle.filterbank.proofs.Held.{row_at, ten_held, held_at, type_at, width_at, size_at_law, mask_at, pattern_at_law, kind_known, size_small}
use Rattle.filterwalk.specs.Columns.{listed, Heads, ten_rows, filter_at, filters_in}
use Rattle.filterwalk.proofs.Listed.{listed_long, listed_at}
use Rattle.verdict.specs.Others.{kept_type, OthersOf}

-- ---- the type at a place

pub kept_mapped : (m : List ℕ) (f : ℕ) → true ≡ mapped_at m f → 0 ≡ kept_type m f
unfolding kept_type
kept_mapped m f e = ap (λ (b : Bool). if b then 0 else get_or m f 0) e

pub kept_other : (m : List ℕ) (f : ℕ) → false ≡ mapped_at m f → get_or m f 0 ≡ kept_type m f
unfolding kept_type
kept_other m f e = ap (λ (b : Bool). if b then 0 else get_or m f 0) e

kept_small : (m : List ℕ) (f : ℕ) → get_or m f 0 ≤ 2 → kept_type m f ≤ 2
unfolding kept_type
kept_small m f h = go (mapped_at m f)
  where
    go : (b : Bool) → (if b then 0 else get_or m f 0) ≤ 2
    go true = omega arith
    go false = h

-- ---- the loop that makes them

-- the first f types are those that are kept, all else is as it was
pub record Kept (m heads : List ℕ) (f : ℕ) : Type 0 where
  pub long : length heads ≡ masks_in
  pub done : (k : ℕ) → k < f → get_or heads k 0 ≡ kept_type m k
  pub rest : (k : ℕ) → f ≤ k → k < masks_in → get_or heads k 0 ≡ get_or m k 0

pub kept_none : (m heads : List ℕ) → length m ≡ filters_size → heads ≡ take masks_in m → Kept m heads 0
kept_none m heads l e =
    record {
      long = ap length e ∙ length-take-le masks_in m (omega arith);
      done = λ k h. absurd (omega arith);
      rest = λ k h g. ap (λ (x : List ℕ). get_or x k 0) e ∙ get_or-take masks_in m k 0 g;
    }

pub kept_more : (m heads : List ℕ) (f v : ℕ) → Kept m heads f → f < most_places → v ≡ kept_type m f → Kept m (set heads f v) (f + 1)
kept_more m heads f v s h e =
    record {
      long = length-set heads f v ∙ s.long;
      done = λ k g. go k g (eqb k f) refl;
      rest = λ k g l. get_or-set_other heads f k v 0 (λ (q : k ≡ f). omega arith) ∙ s.rest k (omega arith) l;
    }
  where
    here : f < length heads
    here = omega (arith, s.long)

    go : (k : ℕ) → k < f + 1 → (b : Bool) → eqb k f ≡ b → get_or (set heads f v) k 0 ≡ kept_type m k
    go k g true q = let is : k ≡ f = eqb-true k f q in ap (λ (j : ℕ). get_or (set heads f v) j 0) is ∙ get_or-set_same heads f v 0 here ∙ e ∙ ap (kept_type m) (sym is)
    go k g false q =
        let no : k ≡ f → ⊥ = eqb-false k f q in
        let less : k < f = ⊎_elim (λ (x : k ≡ f). absurd (no x)) (λ x. x) (eq-or-lt_of_le (omega arith)) in
        get_or-set_other heads f k v 0 no ∙ s.done k less

pub kept_done : (m heads : List ℕ) → Kept m heads most_places → OthersOf m heads
kept_done m heads s = record { long = s.long; types = s.done; rest = s.rest }

-- ---- the filters that they are the heads of

others_long : (s : Slots Filter) → length (others s) ≡ length s
unfolding others
others_long [] = refl
others_long (x ∷ s) = ap suc (others_long s)

others_at : (s : Slots Filter) (i : ℕ) → get_or (others s) i none ≡ kept (get_or s i none)
unfolding others kept
others_at [] i = refl
others_at (x ∷ s) zero = refl
others_at (x ∷ s) (suc i) = others_at s i

-- a place with a filter of the map counts as empty
kept_back : (k n : ℕ) (w : Bool) (a b : List ℕ)
    → filter_back (if (not (eqb k 0) && not w) && leb n least_data then 0 else k, (w, (n, (a, b)))) ≡ kept (filter_back (k, (w, (n, (a, b)))))
unfolding kept in_map
kept_back k n w a b = go (eqb k 0) (not w && leb n least_data) refl refl
  where
    f : Filter
    f = record { block = eqb k 2; wide = w; size = n; mask = a; pattern = b }

    go : (z x : Bool) → eqb k 0 ≡ z → (not w && leb n least_data) ≡ x
        → filter_back (if (not z && not w) && leb n least_data then 0 else k, (w, (n, (a, b)))) ≡ kept (if z then none else some f)
    go true x e q = rw e
    go false true e q = rw q
    go false false e q = rw (q, e)

module _ (m : List ℕ) (v : FilterPart m) (heads : List ℕ) (o : OthersOf m heads) where
  place_at : (i : ℕ) (h : i < most_places) → filter_at heads (ten_rows masks_in m) (ten_rows patterns_in m) i ≡ kept (filter_back (row_at m v i h))
  unfolding filter_at ten_rows kept_type mapped_at
  place_at i h =
      let row_at_law : (at : ℕ) → get_or (ten_rows at m) i [] ≡ take most_data (drop (at + i * most_data) m) = λ at. listed_at (λ f. take most_data (drop (at + f * most_data) m)) most_places i [] h in
      let mask : List ℕ = take most_data (drop (masks_in + i * most_data) m) in
      let pattern : List ℕ = take most_data (drop (patterns_in + i * most_data) m) in
      ap filter_back
      (λ j. (
        o.types i h j,
        (eqb 1 (o.rest (widths_in + i) (omega arith) (omega arith) j), (o.rest (sizes_in + i) (omega arith) (omega arith) j, (row_at_law masks_in j, row_at_law patterns_in j))),
      ))
      ∙ kept_back (get_or m i 0) (get_or m (sizes_in + i) 0) (eqb 1 (get_or m (widths_in + i) 0)) mask pattern
      ∙ ap (λ r. kept (filter_back r)) (λ j. (type_at m v i h j, (width_at m v i h j, (size_at_law m v i h j, (mask_at m v i h j, pattern_at_law m v i h j)))))

  pub others_held : (flags : ℕ) → filters_in heads (ten_rows masks_in m) (ten_rows patterns_in m) ≡ others ((filters flags).get m)
  unfolding filters_in
  others_held flags =
      let at : ℕ → Option Filter = filter_at heads (ten_rows masks_in m) (ten_rows patterns_in m) in
      let fs : Slots Filter = (filters flags).get m in
      let ten : length (listed most_places at) ≡ most_places = listed_long at most_places in
      ext_get_or none (listed most_places at) (others fs) (ten ∙ sym (others_long fs ∙ ten_held m v flags))
      (λ i h.
      let k : i < most_places = omega arith in
      listed_at at most_places i none k ∙ place_at i k ∙ ap kept (sym (held_at m v i k flags)) ∙ sym (others_at fs i))

  pub heads_kept : Heads heads
  heads_kept =
      record {
        long = o.long;
        kinds = λ f h. subst (λ (k : ℕ). k ≤ 2) (sym (o.types f h)) (kept_small m f (kind_known m v f h));
        sizes = λ f h. subst (λ (k : ℕ). k ≤ most_data) (sym (o.rest (sizes_in + f) (omega arith) (omega arith))) (size_small m v f h);
      }
