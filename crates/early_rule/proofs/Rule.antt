-- THE RULE. Everything passes exactly if a pass filter looks at no data and no block filter can match; something passes exactly if the cube of a pass
-- filter is not covered by the block filters that are not longer. Assumes nothing.
use mathlib.Core.Path.{◌≡◌, refl, sym, ap, ap₂, ◌∙◌}
use Prim.Native.Nat.{ℕ, ◌+◌, ◌-◌, ◌≤◌, ◌<◌}
use native.Mathlib.Omega.{arith}
use mathlib.Core.Bool.{Bool, true, false, ◌&&◌}
use mathlib.Core.Option.{Option, none, some}
use mathlib.Core.List.{List, [], ◌++◌}
use lib.Dec.{eqb}
use lib.Bits.{bit_and, and_zero_l, and_zero_r}
use lib.ListN.{length, get_or}
use borrow.Author.Tests.{eq-eqb, eqb-true, le-leb, leb-true}
use Rattle.cubes.proofs.Steps.{and_twice}
use Rattle.machine.specs.Limits.{most_places, least_data}
use Rattle.machine.specs.Filter.{Slots, Filter, matches, passes}
use Rattle.machine.specs.Early.{drops, passes_all, must_see, early, Data}
use Rattle.machine.proofs.Every.{apart, all_pass, all_drop, some_differ, no_data}
use Rattle.early_rule.specs.Words.{value, digits, met_by, type_at, size_at, In, Conds, Clear}
use Rattle.early_rule.proofs.Bytes.{digits_long, digits_bytes, digits_value}
use Rattle.early_rule.proofs.Verdict.{At, let_in, blocked, unwanted, outdone}

both : (a b : Bool) → (a && b) ≡ true → (a ≡ true) × (b ≡ true)
both true b e = (refl, e)
both false b e = (cc, cc)

module _ (fs : Slots Filter) (wide : Bool) (id heads ms ps : List ℕ) (c : Conds fs wide id heads ms ps) where
  abbrev frame : ℕ → ℕ → List ℕ
  frame n x = id ++ digits n x

  filter_at : (n x j : ℕ) → (o : Option Filter) → get_or fs j none ≡ o → met_by wide (frame n x) o ≡ true → (f : Filter) × (get_or fs j none ≡ some f) × (matches wide (frame n x) f ≡ true)
  unfolding met_by
  filter_at n x j none e m = absurd (apart (sym m))
  filter_at n x j (some f) e m = (f, e, m)

  -- a place whose cube holds x matches, and the other way round
  pub at_in : (n x j : ℕ) → j < most_places → size_at heads j ≤ least_data + n → In ms ps j x → (b : Bool) → eqb (type_at heads j) 2 ≡ b → At fs wide (frame n x) b j
  at_in n x j h s i b k =
      let m : met_by wide (frame n x) (get_or fs j none) ≡ true = c.met j h n x ∙ ap₂ (λ (p q : Bool). p && q) (le-leb _ _ s) (eq-eqb _ _ i) in
      let w = filter_at n x j (get_or fs j none) refl m in
      record { filter = w.0; held = w.1; kind = c.kind j w.0 h w.1 ∙ k; met = w.2 }

  pub in_at : (n x j : ℕ) (b : Bool) → j < most_places → At fs wide (frame n x) b j → (size_at heads j ≤ least_data + n) × In ms ps j x × (eqb (type_at heads j) 2 ≡ b)
  unfolding met_by
  in_at n x j b h a =
      let m : met_by wide (frame n x) (get_or fs j none) ≡ true = ap (met_by wide (frame n x)) a.held ∙ a.met in
      let w = both _ _ (sym (c.met j h n x) ∙ m) in
      (leb-true _ _ w.0, eqb-true _ _ w.1, sym (c.kind j a.filter h a.held) ∙ a.kind)

  ten : (j : ℕ) → j < length fs → j < most_places
  ten j h = omega (arith, c.ten)

  frames : (d : List ℕ) → Data d → frame (length d) (value d) ≡ id ++ d
  frames d k = ap (λ (e : List ℕ). id ++ e) (digits_value d k.bytes)

  is_data : (n x : ℕ) → n ≤ 8 → Data (digits n x)
  is_data n x h = record { short = omega (arith, digits_long n x); bytes = digits_bytes n x }

  -- ---- everything passes

  pub record Free (j : ℕ) : Type 0 where
    pub low : j < most_places
    pub pass : eqb (type_at heads j) 2 ≡ false
    pub size : size_at heads j ≤ least_data
    pub pattern : get_or ps j 0 ≡ 0

  -- a block filter that can match
  pub record Able (j : ℕ) : Type 0 where
    pub low : j < most_places
    pub block : eqb (type_at heads j) 2 ≡ true
    pub fits : bit_and (get_or ps j 0) (get_or ms j 0) ≡ get_or ps j 0

  in_twice : (m p x : ℕ) → bit_and x m ≡ p → bit_and p m ≡ p
  in_twice m p x e = ap (λ (q : ℕ). bit_and q m) (sym e) ∙ and_twice x m ∙ e

  pub everything : (j : ℕ) → Free j → ((k : ℕ) → Able k → ⊥) → early fs wide id ≡ passes_all
  everything j f g =
      all_pass fs wide id
      (λ d k.
      let n : ℕ = length d in
      let x : ℕ = value d in
      let i : In ms ps j x = ap (bit_and x) (c.short j f.low f.size) ∙ and_zero_r x ∙ sym f.pattern in
      ap (passes fs wide) (sym (frames d k))
      ∙ let_in fs wide (frame n x) j (at_in n x j f.low (omega (arith, f.size)) i false f.pass)
      (λ k h a. let w = in_at n x k true (ten k h) a in g k (record { low = ten k h; block = w.2; fits = in_twice (get_or ms k 0) (get_or ps k 0) x w.1 })))

  -- ---- nothing passes

  pub nothing : ((j : ℕ) → j < most_places → eqb (type_at heads j) 2 ≡ false → (x : ℕ) → In ms ps j x → Clear heads ms ps j x → ⊥) → early fs wide id ≡ drops
  nothing f =
      all_drop fs wide id
      (λ d k.
      let n : ℕ = length d in
      let x : ℕ = value d in
      ap (passes fs wide) (sym (frames d k))
      ∙ outdone fs wide (frame n x)
      (λ j h a no_block.
      let w = in_at n x j false (ten j h) a in
      f j (ten j h) w.2 x w.1
      (λ g l two s i. no_block g (omega (arith, c.ten)) (at_in n x g l (longer (size_at heads j) (size_at heads g) n w.0 s) i true (eq-eqb _ _ two)))))
    where
      longer : (a b n : ℕ) → a ≤ least_data + n → b ≤ least_data + (a - least_data) → b ≤ least_data + n
      longer a b n h k = omega arith

  -- ---- some pass and some don't

  one_passes : (j x : ℕ) → j < most_places → eqb (type_at heads j) 2 ≡ false → In ms ps j x → Clear heads ms ps j x → passes fs wide (frame (size_at heads j - least_data) x) ≡ true
  one_passes j x h p i f =
      let n : ℕ = size_at heads j - least_data in
      let s : size_at heads j ≤ least_data + n = omega arith in
      let_in fs wide (frame n x) j (at_in n x j h s i false p)
      (λ k l a. let w = in_at n x k true (ten k l) a in f k (ten k l) (eqb-true _ _ w.2) w.0 w.1)

  module _ (j x : ℕ) (h : j < most_places) (p : eqb (type_at heads j) 2 ≡ false) (i : In ms ps j x) (f : Clear heads ms ps j x) where
    first : Data (digits (size_at heads j - least_data) x)
    first = is_data (size_at heads j - least_data) x (omega (arith, c.small j h))

    pub some_blocked : (k : ℕ) → Able k → early fs wide id ≡ must_see
    some_blocked k a =
        let n : ℕ = size_at heads k - least_data in
        let s : size_at heads k ≤ least_data + n = omega arith in
        some_differ fs wide id (digits (size_at heads j - least_data) x) (digits n (get_or ps k 0)) first (is_data n (get_or ps k 0) (omega (arith, c.small k a.low)))
        (one_passes j x h p i f)
        (blocked fs wide (frame n (get_or ps k 0)) k (at_in n (get_or ps k 0) k a.low s a.fits true a.block))

    pub empty_dropped : ((k : ℕ) → Free k → ⊥) → early fs wide id ≡ must_see
    unfolding digits
    empty_dropped g =
        some_differ fs wide id (digits (size_at heads j - least_data) x) [] first no_data
        (one_passes j x h p i f)
        (unwanted fs wide (frame 0 0)
        (λ k l a. let w = in_at 0 0 k false (ten k l) a in g k (record { low = ten k l; pass = w.2; size = w.0; pattern = sym w.1 ∙ and_zero_l (get_or ms k 0) })))
