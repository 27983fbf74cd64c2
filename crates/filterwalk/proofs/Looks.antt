-- What the walk's two loops carry. `Seen f`: the places below f are looked at, and no filter of the kind among them matches. Assumes nothing.
use mathlib.Core.Path.{◌≡◌, refl, sym, ap, ap₂, subst, ◌∙◌}
use Prim.Native.Nat.{ℕ, zero, suc, ◌+◌, ◌-◌, ◌≤◌, ◌<◌}
use native.Mathlib.Nat.{eq-or-lt_of_le, le_of_suc-le-suc, not-suc-le-zero}
use native.Mathlib.Numerals.{add-one}
use native.Mathlib.Omega.{arith}
use mathlib.Core.Logic.{⊎_elim}
use mathlib.Core.Bool.{Bool, true, false, not, ◌&&◌, ◌||◌, beq, and-true, and-false}
use mathlib.Core.Option.{none, some}
use mathlib.Core.List.{List, []}
use lib.ListN.{length, get_or, take, drop}
use lib.Seq.{get_or-take, length-take-le}
use lib.Dec.{eqb, leb}
use lib.Bits.{bit_and}
use borrow.Author.Tests.{eqb-true, eqb-false, eq-eqb, ne_eqb, le-leb, lt-leb, not-true}
use Rattle.codec.specs.Plain.{all_below}
use Rattle.machine.specs.Limits.{most_places}
use Rattle.machine.specs.Filter.{Slots, Filter, any_slot, matches, hits}
use Rattle.machine.proofs.Slots.{any_none, any_some, any_end}
use Rattle.layout.specs.Sizes.{widths_in, sizes_in}
use Rattle.filterwalk.specs.Columns.{Heads, EmptyFrom, none_of, filter_at, filters_in, passes_with}
use Rattle.filterwalk.proofs.Listed.{listed_long, listed_at}

-- ---- a test of every number below n

module _ (p : ℕ → Bool) where
  pub all_more : (n : ℕ) → all_below n p ≡ true → p n ≡ true → all_below (n + 1) p ≡ true
  unfolding all_below
  all_more n a h = rw (add-one, a, h)

  pub all_fails : (n k : ℕ) → k < n → p k ≡ false → all_below n p ≡ false
  unfolding all_below
  all_fails zero k l h = absurd (not-suc-le-zero l)
  all_fails (suc n) k l h = ⊎_elim (λ e. rw (← e, h, and-false)) (λ lt. rw (all_fails n k lt h)) (eq-or-lt_of_le (le_of_suc-le-suc l))

-- ---- places looked at in order, for filters of one kind

module _ (block : Bool) (fs : Slots Filter) (ten : length fs ≡ most_places) (wide : Bool) (bytes : List ℕ) where
  -- a filter of the kind that matches
  abbrev Hit : Filter → Bool
  Hit x = beq x.block block && matches wide bytes x

  pub record Seen (f : ℕ) : Type 0 where
    pub low : f ≤ most_places
    pub rest : hits block fs wide bytes ≡ any_slot Hit (drop f fs)

  pub seen_none : Seen 0
  unfolding hits
  seen_none = record { low = omega arith; rest = refl }

  module _ (f : ℕ) (s : Seen f) (h : f < most_places) where
    here : f < length fs
    here = omega arith

    pub seen_empty : get_or fs f none ≡ none → Seen (f + 1)
    seen_empty e = record { low = omega arith; rest = s.rest ∙ any_none fs f Hit here e }

    pub seen_other : (x : Filter) → get_or fs f none ≡ some x → Hit x ≡ false → Seen (f + 1)
    seen_other x e m = record { low = omega arith; rest = s.rest ∙ any_some fs f Hit x here e ∙ ap (λ (b : Bool). b || any_slot Hit (drop (f + 1) fs)) m }

    pub seen_found : (x : Filter) → get_or fs f none ≡ some x → Hit x ≡ true → true ≡ hits block fs wide bytes
    seen_found x e m = sym (s.rest ∙ any_some fs f Hit x here e ∙ ap (λ (b : Bool). b || any_slot Hit (drop (f + 1) fs)) m)

  pub seen_all : (f : ℕ) → Seen f → most_places ≤ f → false ≡ hits block fs wide bytes
  seen_all f s h = sym (s.rest ∙ any_end fs f Hit (omega arith))

-- ---- the ten filters of their columns

-- byte k of a frame, masked, is byte k of the pattern
abbrev pub fits_at : List ℕ → List ℕ → List ℕ → ℕ → Bool
fits_at bytes mask pattern k = eqb (bit_and (get_or bytes k 0) (get_or mask k 0)) (get_or pattern k 0)

-- a byte of the first bytes of a row is that of the row
pub fits_first : (len : ℕ) (row mask pattern : List ℕ) (b : ℕ) → b < len → fits_at (take len row) mask pattern b ≡ fits_at row mask pattern b
fits_first len row mask pattern b h = ap (λ (x : ℕ). eqb (bit_and x (get_or mask b 0)) (get_or pattern b 0)) (get_or-take len row b 0 h)

-- whether a filter is longer than the first bytes of a row
module _ (size len : ℕ) (row : List ℕ) (h : len ≤ length row) where
  pub longer : len < size → leb size (length (take len row)) ≡ false
  longer l = let e : length (take len row) ≡ len = length-take-le len row h in lt-leb size (length (take len row)) (omega arith)

  pub not_longer : size ≤ len → leb size (length (take len row)) ≡ true
  not_longer l = let e : length (take len row) ≡ len = length-take-le len row h in le-leb size (length (take len row)) (omega arith)

same_kind : (b : Bool) → beq b b ≡ true
same_kind true = refl
same_kind false = refl

-- two types of filters that differ are of different kinds
other_kind : (a b : ℕ) (c : Bool) → eqb b 2 ≡ c → a ≤ 2 → (a ≡ 0 → ⊥) → 1 ≤ b → b ≤ 2 → (a ≡ b → ⊥) → beq (eqb a 2) c ≡ false
other_kind a b true e ha na lb hb n = ap (λ (x : Bool). beq x true) (ne_eqb a 2 (λ ea. n (ea ∙ sym (eqb-true b 2 e))))
other_kind a b false e ha na lb hb n = let nb : b ≡ 2 → ⊥ = eqb-false b 2 e in ap (λ (x : Bool). beq x false) (eq-eqb a 2 (omega arith))

module _ (heads : List ℕ) (masks patterns : List (List ℕ)) (kind : ℕ) (wide : Bool) (frame : List ℕ) where
  pub ten_filters : length (filters_in heads masks patterns) ≡ most_places
  unfolding filters_in
  ten_filters = listed_long (filter_at heads masks patterns) most_places

  abbrev pub Looked : ℕ → Type 0
  Looked f = Seen (eqb kind 2) (filters_in heads masks patterns) ten_filters wide frame f

  pub looked_none : Looked 0
  looked_none = seen_none (eqb kind 2) (filters_in heads masks patterns) ten_filters wide frame

  pub looked_all : (f : ℕ) → Looked f → most_places ≤ f → false ≡ hits (eqb kind 2) (filters_in heads masks patterns) wide frame
  looked_all = seen_all (eqb kind 2) (filters_in heads masks patterns) ten_filters wide frame

  module _ (f : ℕ) (h : f < most_places) (s : Looked f) where
    at_place : get_or (filters_in heads masks patterns) f none ≡ filter_at heads masks patterns f
    unfolding filters_in
    at_place = listed_at (filter_at heads masks patterns) most_places f none h

    abbrev Here : Filter
    Here =
        record {
          block = eqb (get_or heads f 0) 2;
          wide = eqb 1 (get_or heads (widths_in + f) 0);
          size = get_or heads (sizes_in + f) 0;
          mask = get_or masks f [];
          pattern = get_or patterns f [];
        }

    here_is : eqb (get_or heads f 0) 0 ≡ false → get_or (filters_in heads masks patterns) f none ≡ some Here
    unfolding filter_at
    here_is n = at_place ∙ rw n

    by_type : (c : Bool) → eqb (get_or heads f 0) 0 ≡ c → get_or heads f 0 ≤ 2 → 1 ≤ kind → kind ≤ 2 → (get_or heads f 0 ≡ kind → ⊥) → Looked (f + 1)
    unfolding filter_at
    by_type true e ha lb hb n = seen_empty (eqb kind 2) (filters_in heads masks patterns) ten_filters wide frame f s h (at_place ∙ rw e)
    by_type false e ha lb hb n =
        seen_other (eqb kind 2) (filters_in heads masks patterns) ten_filters wide frame f s h Here (here_is e)
        (ap (λ (b : Bool). b && matches wide frame Here) (other_kind (get_or heads f 0) kind (eqb kind 2) refl ha (eqb-false (get_or heads f 0) 0 e) lb hb n))

    -- an empty place, or a filter of the other type
    pub other_type : get_or heads f 0 ≤ 2 → 1 ≤ kind → kind ≤ 2 → (get_or heads f 0 ≡ kind → ⊥) → Looked (f + 1)
    other_type = by_type (eqb (get_or heads f 0) 0) refl

    module _ (lb : 1 ≤ kind) (k : get_or heads f 0 ≡ kind) where
      is_here : get_or (filters_in heads masks patterns) f none ≡ some Here
      is_here = here_is (ne_eqb _ _ (λ e. let z : kind ≡ 0 = sym k ∙ e in omega arith))

      no_match : matches wide frame Here ≡ false → Looked (f + 1)
      no_match m =
          seen_other (eqb kind 2) (filters_in heads masks patterns) ten_filters wide frame f s h Here is_here
          (ap (λ (b : Bool). beq (eqb (get_or heads f 0) 2) (eqb kind 2) && b) m ∙ and-false (beq (eqb (get_or heads f 0) 2) (eqb kind 2)))

      pub other_width : beq wide (eqb 1 (get_or heads (widths_in + f) 0)) ≡ false → Looked (f + 1)
      unfolding matches
      other_width w = no_match (rw w)

      pub too_long : leb (get_or heads (sizes_in + f) 0) (length frame) ≡ false → Looked (f + 1)
      unfolding matches
      too_long l = no_match (rw (l, and-false))

      pub other_byte : (b : ℕ) → b < get_or heads (sizes_in + f) 0 → fits_at frame (get_or masks f []) (get_or patterns f []) b ≡ false → Looked (f + 1)
      unfolding matches
      other_byte b l e = no_match (rw (all_fails (fits_at frame (get_or masks f []) (get_or patterns f [])) (get_or heads (sizes_in + f) 0) b l e, and-false))

      -- a filter of the type and of the frame's width all of whose bytes fit
      pub all_bytes : (b : ℕ) → beq wide (eqb 1 (get_or heads (widths_in + f) 0)) ≡ true → leb (get_or heads (sizes_in + f) 0) (length frame) ≡ true → b ≡ get_or heads (sizes_in + f) 0
          → all_below b (fits_at frame (get_or masks f []) (get_or patterns f [])) ≡ true → true ≡ hits (eqb kind 2) (filters_in heads masks patterns) wide frame
      unfolding matches
      all_bytes b w l e a =
          seen_found (eqb kind 2) (filters_in heads masks patterns) ten_filters wide frame f s h Here is_here
          (ap₂ (λ (x y : Bool). x && y) (ap (λ (n : ℕ). beq (eqb n 2) (eqb kind 2)) k ∙ same_kind (eqb kind 2)) (rw (w, l, ← e, a)))

-- ---- the places behind the last filter

module _ (heads : List ℕ) (masks patterns : List (List ℕ)) (kind : ℕ) (wide : Bool) (frame : List ℕ) (lb : 1 ≤ kind) (hb : kind ≤ 2) where
  on : (k n : ℕ) → n + k ≡ most_places → Looked heads masks patterns kind wide frame n → EmptyFrom heads n → false ≡ hits (eqb kind 2) (filters_in heads masks patterns) wide frame
  on zero n e s z = looked_all heads masks patterns kind wide frame n s (omega arith)
  on (suc k) n e s z =
      let h : n < most_places = omega arith in
      let z0 : get_or heads n 0 ≡ 0 = z n (omega arith) h in
      on k (n + 1) (omega arith) (other_type heads masks patterns kind wide frame n h s (omega arith) lb hb (λ e. let x : kind ≡ 0 = sym e ∙ z0 in omega arith)) (λ f l. z f (omega arith))

  pub looked_end : (n end : ℕ) → Looked heads masks patterns kind wide frame n → end ≤ n → EmptyFrom heads end → false ≡ hits (eqb kind 2) (filters_in heads masks patterns) wide frame
  looked_end n end s h z = let low : n ≤ most_places = s.low in on (most_places - n) n (omega arith) s (λ f l. z f (omega arith))

-- ---- no filter of a type

-- what holds of all numbers below n holds of each
all_at : (p : ℕ → Bool) (n k : ℕ) → k < n → all_below n p ≡ true → p k ≡ true
all_at p n k l a = sure (p k) refl
  where
    sure : (b : Bool) → p k ≡ b → b ≡ true
    sure true e = refl
    sure false e = let c : true ≡ false = sym a ∙ all_fails p n k l e in cc

module _ (heads : List ℕ) (masks patterns : List (List ℕ)) (kind : ℕ) (wide : Bool) (frame : List ℕ) (v : Heads heads) (lb : 1 ≤ kind) (hb : kind ≤ 2)
    (z : true ≡ none_of heads kind) where
  not_at : (f : ℕ) → f < most_places → get_or heads f 0 ≡ kind → ⊥
  unfolding none_of
  not_at f h = eqb-false _ _ (not-true _ (all_at (λ k. not (eqb (get_or heads k 0) kind)) most_places f h (sym z)))

  past : (n : ℕ) → n ≤ most_places → Looked heads masks patterns kind wide frame n
  past zero h = looked_none heads masks patterns kind wide frame
  past (suc n) h =
      let l : n < most_places = omega arith in
      subst (λ (k : ℕ). Looked heads masks patterns kind wide frame k) (add-one n) (other_type heads masks patterns kind wide frame n l (past n (omega arith)) (v.kinds n l) lb hb (not_at n l))

  pub none_hits : false ≡ hits (eqb kind 2) (filters_in heads masks patterns) wide frame
  none_hits = looked_all heads masks patterns kind wide frame most_places (past most_places (omega arith)) (omega arith)

-- ---- the verdict of the two walks

module _ (passed : Bool) (fs : Slots Filter) (wide : Bool) (bytes : List ℕ) where
  pub blocked : true ≡ hits true fs wide bytes → false ≡ passes_with passed fs wide bytes
  unfolding passes_with
  blocked e = sym (ap (λ (b : Bool). (passed || hits false fs wide bytes) && not b) (sym e) ∙ and-false (passed || hits false fs wide bytes))

  pub not_blocked : (r : Bool) → false ≡ hits true fs wide bytes → r ≡ (passed || hits false fs wide bytes) → r ≡ passes_with passed fs wide bytes
  unfolding passes_with
  not_blocked r e h = h ∙ sym (ap (λ (b : Bool). (passed || hits false fs wide bytes) && not b) (sym e) ∙ and-true (passed || hits false fs wide bytes))

-- where nothing besides them has
pub by_these : (passed h r : Bool) → passed ≡ false → r ≡ h → r ≡ (passed || h)
by_these passed h r e k = k ∙ ap (λ (b : Bool). b || h) (sym e)

-- no filter of the kind that could turn it
module _ (fs : Slots Filter) (wide : Bool) (bytes : List ℕ) where
  pub none_passed : false ≡ hits false fs wide bytes → false ≡ passes_with false fs wide bytes
  unfolding passes_with
  none_passed e = sym (ap (λ (b : Bool). b && not (hits true fs wide bytes)) (sym e))

  pub none_blocks : false ≡ hits true fs wide bytes → true ≡ passes_with true fs wide bytes
  unfolding passes_with
  none_blocks e = ap not e
