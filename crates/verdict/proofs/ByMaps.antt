-- The verdict by the maps and by what they leave of the list is the verdict. Assumes nothing.
use mathlib.Core.Path.{◌≡◌, refl, sym, ap, ap₂, subst, ◌∙◌}
use Prim.Native.Nat.{ℕ, ◌+◌, ◌-◌, ◌≤◌, ◌<◌}
use native.Mathlib.Omega.{arith}
use mathlib.Core.Bool.{Bool, true, false, not, ◌&&◌, ◌||◌, and-false}
use mathlib.Core.List.{List, [], ◌++◌}
use lib.ListN.{length, take, drop}
use lib.Seq.{take_at, drop_at, drop-drop, take_all}
use borrow.Rule.Slice.PartMut.{mid_of}
use Rattle.machine.specs.Message.{id_bytes, id_limit}
use Rattle.machine.specs.Filter.{Slots, Filter, hits, passes}
use Rattle.map_rule.specs.Map.{map_size, maps_size, narrow_ids, map_bytes, maps, bit_in, others, hits_by, passes_by}
use Rattle.map_rule.proofs.ByMap.{by_map, map_long}
use Rattle.layout.specs.Sizes.{masks_in, patterns_in, filters_size, mapped_size}
use Rattle.layout.specs.Memory.{filters, mapped}
use Rattle.filterbank.specs.Part.{FilterPart, MappedPart}
use Rattle.filterbank.proofs.Held.{any_flags}
use Rattle.filterbank.proofs.Mapped.{mapped_got, front, back_is}
use Rattle.filterwalk.specs.Columns.{Heads, none_of, ten_rows, filters_in, passes_with}
use Rattle.filterwalk.proofs.Looks.{none_hits, none_passed, none_blocks}
use Rattle.verdict.specs.Others.{OthersOf, turning_kind}
use Rattle.verdict.proofs.Kept.{others_held}

-- ---- where no filter can turn it

module _ (heads : List ℕ) (masks patterns : List (List ℕ)) (wide : Bool) (bytes : List ℕ) (h : Heads heads) where
  pub stands : (passed : Bool) (kind : ℕ) → kind ≡ turning_kind passed → true ≡ none_of heads kind → passed ≡ passes_with passed (filters_in heads masks patterns) wide bytes
  unfolding turning_kind
  stands true kind e z = none_blocks _ wide bytes (none_hits heads masks patterns 2 wide bytes h (omega arith) (omega arith) (z ∙ ap (none_of heads) e))
  stands false kind e z = none_passed _ wide bytes (none_hits heads masks patterns 1 wide bytes h (omega arith) (omega arith) (z ∙ ap (none_of heads) e))

-- ---- the maps, and what they leave of the list

module _ (fs : Slots Filter) (wide : Bool) (id : ℕ) (rest : List ℕ) (h : id ≤ id_limit wide) where
  abbrev bytes : List ℕ
  bytes = id_bytes id ++ rest

  abbrev in_this : List ℕ → Bool
  in_this map = not wide && bit_in map id

  blocked_is : true ≡ in_this (map_bytes true fs) → false ≡ passes fs wide bytes
  unfolding passes_by hits_by
  blocked_is e =
      sym (sym (by_map fs id rest wide h)
      ∙ ap (λ (b : Bool). (in_this (map_bytes false fs) || hits false (others fs) wide bytes) && not (b || hits true (others fs) wide bytes)) (sym e)
      ∙ and-false (in_this (map_bytes false fs) || hits false (others fs) wide bytes))

  listed_is : (passed : Bool) → false ≡ in_this (map_bytes true fs) → passed ≡ in_this (map_bytes false fs) → passes_with passed (others fs) wide bytes ≡ passes fs wide bytes
  unfolding passes_with passes_by hits_by
  listed_is passed e p =
      ap₂ (λ (a b : Bool). (a || hits false (others fs) wide bytes) && not (b || hits true (others fs) wide bytes)) p e ∙ by_map fs id rest wide h

-- ---- as they lie in the region

module _ (m : List ℕ) (v : MappedPart m) (flags : ℕ) where
  abbrev part : List ℕ
  part = take filters_size m

  abbrev fs : Slots Filter
  fs = (filters v.flags).get part

  got : (mapped flags).get m ≡ fs
  got = mapped_got flags m ∙ any_flags flags v.flags part

  pass_map : (k : ℕ) → k ≡ map_size → mid_of filters_size k m ≡ map_bytes false fs
  unfolding maps
  pass_map k e = ap₂ (λ (j : ℕ) (x : List ℕ). take j x) e (back_is m v) ∙ take_at (map_bytes false fs) (map_bytes true fs) map_size (map_long false fs)

  block_map : (k : ℕ) → k ≡ map_size → mid_of (filters_size + map_size) k m ≡ map_bytes true fs
  unfolding maps
  block_map k e =
      ap₂ (λ (j : ℕ) (x : List ℕ). take j x) e
      (sym (drop-drop map_size filters_size m) ∙ ap (drop map_size) (back_is m v) ∙ drop_at (map_bytes false fs) (map_bytes true fs) map_size (map_long false fs))
      ∙ take_all map_size (map_bytes true fs) (omega (arith, map_long true fs))

  module _ (wide : Bool) (id : ℕ) (rest : List ℕ) (h : id ≤ id_limit wide) where
    pub kept_out : (k : ℕ) → k ≡ map_size → true ≡ (not wide && bit_in (mid_of (filters_size + map_size) k m) id) → false ≡ passes ((mapped flags).get m) wide (id_bytes id ++ rest)
    kept_out k e b =
        blocked_is fs wide id rest h (b ∙ ap (λ (x : List ℕ). not wide && bit_in x id) (block_map k e)) ∙ ap (λ (s : Slots Filter). passes s wide (id_bytes id ++ rest)) (sym got)

    pub by_the_list : (j k : ℕ) (passed r : Bool) (heads frame : List ℕ) → j ≡ map_size → k ≡ map_size → false ≡ (not wide && bit_in (mid_of (filters_size + map_size) j m) id)
        → passed ≡ (not wide && bit_in (mid_of filters_size k m) id) → OthersOf part heads
        → r ≡ passes_with passed (filters_in heads (ten_rows masks_in part) (ten_rows patterns_in part)) wide frame → frame ≡ id_bytes id ++ rest
        → r ≡ passes ((mapped flags).get m) wide (id_bytes id ++ rest)
    by_the_list j k passed r heads frame ej ek b p o e f =
        e
        ∙ ap₂ (λ (s : Slots Filter) (x : List ℕ). passes_with passed s wide x) (others_held part (front m v) heads o v.flags) f
        ∙ listed_is fs wide id rest h passed (b ∙ ap (λ (x : List ℕ). not wide && bit_in x id) (block_map j ej)) (p ∙ ap (λ (x : List ℕ). not wide && bit_in x id) (pass_map k ek))
        ∙ ap (λ (s : Slots Filter). passes s wide (id_bytes id ++ rest)) (sym got)

-- a narrow identifier has a bit
pub has_bit : (id : ℕ) (wide : Bool) → wide ≡ false → id ≤ id_limit wide → id < narrow_ids
unfolding id_limit
has_bit id wide n l = let h : id ≤ id_limit false = subst (λ (w : Bool). id ≤ id_limit w) n l in omega arith

-- rows that were copied
pub of_rows : (passed wide r : Bool) (heads bytes : List ℕ) (a b x y : List (List ℕ)) → x ≡ a → y ≡ b → r ≡ passes_with passed (filters_in heads x y) wide bytes → r ≡ passes_with passed (filters_in heads a b) wide bytes
of_rows passed wide r heads bytes a b x y ea eb e = e ∙ ap₂ (λ (p q : List (List ℕ)). passes_with passed (filters_in heads p q) wide bytes) ea eb

-- a wide frame is in no map
pub not_in : (wide : Bool) (map : List ℕ) (id : ℕ) → wide ≡ true → false ≡ (not wide && bit_in map id)
not_in wide map id e = sym (ap (λ (w : Bool). not w && bit_in map id) e)

pub by_bit : (wide r : Bool) (map : List ℕ) (id : ℕ) → wide ≡ false → r ≡ bit_in map id → r ≡ (not wide && bit_in map id)
by_bit wide r map id e b = b ∙ sym (ap (λ (w : Bool). not w && bit_in map id) e)
