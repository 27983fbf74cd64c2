-- The verdict by maps is the verdict, for every frame and every filter set. Assumes nothing.
use Rattle.std.specs.Prelude.{if◌then◌else◌}
use mathlib.Core.Path.{◌≡◌, refl, sym, ap, ap₂, ◌∙◌}
use mathlib.Core.Logic.{⊎_elim}
use Prim.Native.Nat.{ℕ, zero, suc, ◌+◌, ◌*◌, ◌/◌, ◌%◌, ◌≤◌, ◌<◌}
use native.Mathlib.Nat.{mod-lt, div-add-mod', not-suc-le-zero, le_of_suc-le-suc, eq-or-lt_of_le}
use native.Mathlib.Numerals.{add-one}
use native.Mathlib.Omega.{arith}
use mathlib.Core.Bool.{Bool, true, false, not, ◌&&◌, ◌||◌, beq}
use mathlib.Core.Option.{none, some}
use mathlib.Core.List.{List, [], ◌∷◌, ◌++◌}
use lib.ListN.{length, get_or, length-append, get_or-append}
use lib.Seq.{get_or_at}
use lib.Dec.{eqb, leb}
use lib.Bits.{bit_and}
use borrow.Author.Tests.{le-leb, leb-true}
use Rattle.codec.specs.Plain.{all_below}
use Rattle.codec.specs.Code.{mark_of}
use Rattle.machine.specs.Limits.{least_data}
use Rattle.machine.specs.Message.{id_bytes, id_limit}
use Rattle.machine.specs.Filter.{Slots, Filter, any_slot, matches, hits, passes}
use Rattle.map_rule.specs.Map.{map_size, maps_size, narrow_ids, in_map, map_bit, packed, bit_at, counted, map_byte, map_bytes, bit_in, kept, others, hits_by, passes_by, maps}

-- ---- lists by a function

module _ {A : Type 0} (at : ℕ → A) where
  pub counted_long : (n : ℕ) → length (counted n at) ≡ n
  unfolding counted
  counted_long zero = refl
  counted_long (suc n) = length-append (counted n at) (at n ∷ []) ∙ ap (λ (k : ℕ). k + 1) (counted_long n) ∙ add-one n

  pub counted_at : (n i : ℕ) (d : A) → i < n → get_or (counted n at) i d ≡ at i
  unfolding counted
  counted_at zero i d h = absurd (not-suc-le-zero h)
  counted_at (suc n) i d h =
      ⊎_elim
      (λ e. get_or_at (counted n at) (at n) [] d i (counted_long n ∙ sym e) ∙ ap at (sym e))
      (λ l. get_or-append (counted n at) (at n ∷ []) d i (omega (arith, counted_long n)) ∙ counted_at n i d l)
      (eq-or-lt_of_le (le_of_suc-le-suc h))

-- ---- bits of a number made of bits

mark_one : (b : Bool) (q : ℕ) → eqb ((q * 2 + mark_of b) % 2) 1 ≡ b
mark_one true q = let e : (q * 2 + 1) % 2 ≡ 1 = omega arith in ap (λ (n : ℕ). eqb n 1) e
mark_one false q = let e : (q * 2 + 0) % 2 ≡ 0 = omega arith in ap (λ (n : ℕ). eqb n 1) e

mark_half : (b : Bool) (q : ℕ) → (q * 2 + mark_of b) / 2 ≡ q
mark_half true q = omega arith
mark_half false q = omega arith

pub bit_packed : (n : ℕ) (p : ℕ → Bool) (k : ℕ) → k < n → bit_at k (packed n p) ≡ p k
unfolding packed bit_at
bit_packed zero p k h = absurd (not-suc-le-zero h)
bit_packed (suc n) p zero h = mark_one (p 0) (packed n (λ k. p (suc k)))
bit_packed (suc n) p (suc k) h = ap (bit_at k) (mark_half (p 0) (packed n (λ k. p (suc k)))) ∙ bit_packed n (λ k. p (suc k)) k (le_of_suc-le-suc h)

pub bit_in_map : (block : Bool) (fs : Slots Filter) (id : ℕ) → id < narrow_ids → bit_in (map_bytes block fs) id ≡ map_bit block fs id
unfolding bit_in map_bytes map_byte
bit_in_map block fs id h =
    let l : id / 8 < map_size = omega arith in
    ap (bit_at (id % 8)) (counted_at (map_byte block fs) map_size (id / 8) 0 l)
    ∙ bit_packed 8 (λ j. map_bit block fs (id / 8 * 8 + j)) (id % 8) (mod-lt id (omega arith))
    ∙ ap (map_bit block fs) (div-add-mod' id 8)

-- ---- the filters in two parts

spread : (m x a b : Bool) → ((m && x) || (a || b)) ≡ (((m && x) || a) || b)
spread true true a b = refl
spread true false a b = refl
spread false x a b = refl

move : (x a b : Bool) → (x || (a || b)) ≡ (a || (x || b))
move true true b = refl
move true false b = refl
move false a b = refl

any_two : (p : Filter → Bool) (s : Slots Filter) → any_slot p s ≡ (any_slot (λ f. in_map f && p f) s || any_slot p (others s))
unfolding any_slot others kept
any_two p [] = refl
any_two p (none ∷ s) = any_two p s
any_two p (some f ∷ s) = ap (λ (b : Bool). p f || b) (any_two p s) ∙ go (in_map f)
  where
    go : (m : Bool) → (p f || (any_slot (λ f. in_map f && p f) s || any_slot p (others s))) ≡ (((m && p f) || any_slot (λ f. in_map f && p f) s) || any_slot p ((if m then none else some f) ∷ others s))
    go true = spread true (p f) (any_slot (λ f. in_map f && p f) s) (any_slot p (others s))
    go false = move (p f) (any_slot (λ f. in_map f && p f) s) (any_slot p (others s))

any_same : (p q : Filter → Bool) (s : Slots Filter) → ((f : Filter) → p f ≡ q f) → any_slot p s ≡ any_slot q s
unfolding any_slot
any_same p q [] e = refl
any_same p q (none ∷ s) e = any_same p q s e
any_same p q (some f ∷ s) e = ap₂ (λ (a b : Bool). a || b) (e f) (any_same p q s e)

any_no : (p : Filter → Bool) (s : Slots Filter) → ((f : Filter) → p f ≡ false) → any_slot p s ≡ false
unfolding any_slot
any_no p [] e = refl
any_no p (none ∷ s) e = any_no p s e
any_no p (some f ∷ s) e = ap₂ (λ (a b : Bool). a || b) (e f) (any_no p s e)

-- ---- a filter of the map looks at the identifier alone

below_same : (n : ℕ) (p q : ℕ → Bool) → ((k : ℕ) → k < n → p k ≡ q k) → all_below n p ≡ all_below n q
unfolding all_below
below_same zero p q f = refl
below_same (suc n) p q f = ap₂ (λ (a b : Bool). a && b) (below_same n p q (λ k h. f k (omega arith))) (f n (omega arith))

four_alone : (id : ℕ) (rest : List ℕ) (f : Filter) → f.size ≤ least_data → matches false (id_bytes id ++ rest) f ≡ matches false (id_bytes id) f
unfolding matches
four_alone id rest f h =
    let l : length (id_bytes id) ≡ least_data = unfold id_bytes in refl in
    let g : f.size ≤ length (id_bytes id ++ rest) = omega (arith, length-append (id_bytes id) rest) in
    let k : f.size ≤ length (id_bytes id) = omega arith in
    let a : leb f.size (length (id_bytes id ++ rest)) ≡ true = le-leb _ _ g in
    let b : leb f.size (length (id_bytes id)) ≡ true = le-leb _ _ k in
    ap₂ (λ (x y : Bool). (beq false f.wide && x) && y) (a ∙ sym b)
    (below_same f.size _ _ (λ k g. ap (λ (x : ℕ). eqb (bit_and x (get_or f.mask k 0)) (get_or f.pattern k 0)) (get_or-append (id_bytes id) rest 0 k (omega arith))))

alone : (id : ℕ) (rest : List ℕ) (block : Bool) (f : Filter) → (in_map f && (beq f.block block && matches false (id_bytes id ++ rest) f)) ≡ (in_map f && (beq f.block block && matches false (id_bytes id) f))
unfolding in_map
alone id rest block f = go (not f.wide) (leb f.size least_data) refl
  where
    go : (a b : Bool) → leb f.size least_data ≡ b → ((a && b) && (beq f.block block && matches false (id_bytes id ++ rest) f)) ≡ ((a && b) && (beq f.block block && matches false (id_bytes id) f))
    go true true e = ap (λ (m : Bool). beq f.block block && m) (four_alone id rest f (leb-true _ _ e))
    go true false e = refl
    go false b e = refl

not_wide : (bytes : List ℕ) (block : Bool) (f : Filter) → (in_map f && (beq f.block block && matches true bytes f)) ≡ false
unfolding in_map matches
not_wide bytes block f = go f.wide (leb f.size least_data) (beq f.block block) (leb f.size (length bytes)) (all_below f.size (λ k. eqb (bit_and (get_or bytes k 0) (get_or f.mask k 0)) (get_or f.pattern k 0)))
  where
    last : (a : Bool) → (a && false) ≡ false
    last true = refl
    last false = refl

    go : (w s b l m : Bool) → ((not w && s) && (b && ((beq true w && l) && m))) ≡ false
    go true s b l m = refl
    go false true b l m = last b
    go false false b l m = refl

-- ---- the verdict

module _ (fs : Slots Filter) (id : ℕ) (rest : List ℕ) where
  hits_narrow : (block : Bool) → id < narrow_ids → hits_by (map_bytes block fs) block fs false id (id_bytes id ++ rest) ≡ hits block fs false (id_bytes id ++ rest)
  unfolding hits_by hits map_bit
  hits_narrow block h =
      sym (any_two (λ f. beq f.block block && matches false (id_bytes id ++ rest) f) fs
      ∙ ap (λ (b : Bool). b || any_slot (λ f. beq f.block block && matches false (id_bytes id ++ rest) f) (others fs))
      (any_same _ _ fs (alone id rest block) ∙ sym (bit_in_map block fs id h)))

  hits_wide : (map : List ℕ) (block : Bool) → hits_by map block fs true id (id_bytes id ++ rest) ≡ hits block fs true (id_bytes id ++ rest)
  unfolding hits_by hits
  hits_wide map block =
      sym (any_two (λ f. beq f.block block && matches true (id_bytes id ++ rest) f) fs
      ∙ ap (λ (b : Bool). b || any_slot (λ f. beq f.block block && matches true (id_bytes id ++ rest) f) (others fs)) (any_no _ fs (not_wide (id_bytes id ++ rest) block)))

  -- THE MAPS GIVE THE OLD VERDICT
  pub by_map : (wide : Bool) → id ≤ id_limit wide → passes_by (map_bytes false fs) (map_bytes true fs) fs wide id (id_bytes id ++ rest) ≡ passes fs wide (id_bytes id ++ rest)
  unfolding passes_by passes id_limit
  by_map true h = ap₂ (λ (a b : Bool). a && not b) (hits_wide (map_bytes false fs) false) (hits_wide (map_bytes true fs) true)
  by_map false h = ap₂ (λ (a b : Bool). a && not b) (hits_narrow false (omega arith)) (hits_narrow true (omega arith))

-- ---- how long they are

pub map_long : (block : Bool) (fs : Slots Filter) → length (map_bytes block fs) ≡ map_size
unfolding map_bytes
map_long block fs = counted_long (map_byte block fs) map_size

pub maps_long : (fs : Slots Filter) → length (maps fs) ≡ maps_size
unfolding maps
maps_long fs = length-append (map_bytes false fs) (map_bytes true fs) ∙ ap₂ (λ (a b : ℕ). a + b) (map_long false fs) (map_long true fs)
