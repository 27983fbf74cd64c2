-- Bits packed into a byte, lists by a function, and the maps of no filters: zeros. Assumes nothing.
use Rattle.std.specs.Prelude.{if◌then◌else◌}
use mathlib.Core.Path.{◌≡◌, refl, sym, ap, ap₂, ◌∙◌}
use Prim.Native.Nat.{ℕ, zero, suc, ◌+◌, ◌*◌, ◌<◌}
use native.Mathlib.Numerals.{add-one}
use native.Mathlib.Omega.{arith}
use mathlib.Core.Bool.{Bool, true, false, ◌&&◌, ◌||◌}
use mathlib.Core.Option.{none}
use mathlib.Core.List.{List, [], ◌∷◌, ◌++◌}
use lib.ListN.{length, set, take, replicate}
use lib.Seq.{take-suc-set, take_all}
use lib.Bits.{bit_or, or_block}
use Rattle.codec.specs.Plain.{zeros}
use Rattle.codec.specs.Code.{mark_of}
use Rattle.codec.proofs.Lists.{zeros_join}
use Rattle.machine.specs.Filter.{Slots, Filter, any_slot, none_yet}
use Rattle.machine.specs.Limits.{most_places}
use Rattle.map_rule.specs.Map.{map_size, maps_size, map_bit, packed, counted, map_byte, map_bytes, maps}

mark_or : (a b : Bool) → bit_or (mark_of a) (mark_of b) ≡ mark_of (a || b)
mark_or true true = refl
mark_or true false = refl
mark_or false true = refl
mark_or false false = refl

mark_small : (a : Bool) → mark_of a < 2
mark_small true = omega arith
mark_small false = omega arith

pub or_packed : (n : ℕ) (p q : ℕ → Bool) → bit_or (packed n p) (packed n q) ≡ packed n (λ j. p j || q j)
unfolding packed
or_packed zero p q = refl
or_packed (suc n) p q =
    or_block 1 (packed n (λ k. p (suc k))) (packed n (λ k. q (suc k))) (mark_of (p 0)) (mark_of (q 0)) (mark_small (p 0)) (mark_small (q 0))
    ∙ ap₂ (λ (x y : ℕ). x * 2 + y) (or_packed n (λ k. p (suc k)) (λ k. q (suc k))) (mark_or (p 0) (q 0))

pub packed_same : (n : ℕ) (p q : ℕ → Bool) → ((j : ℕ) → j < n → p j ≡ q j) → packed n p ≡ packed n q
unfolding packed
packed_same zero p q e = refl
packed_same (suc n) p q e = ap₂ (λ (x y : ℕ). x * 2 + y) (packed_same n (λ k. p (suc k)) (λ k. q (suc k)) (λ j h. e (suc j) (omega arith))) (ap mark_of (e 0 (omega arith)))

pub packed_none : (n : ℕ) → packed n (λ j. false) ≡ 0
unfolding packed
packed_none zero = refl
packed_none (suc n) = ap (λ (x : ℕ). x * 2 + 0) (packed_none n)

pub packed_if : (n : ℕ) (a : Bool) (p : ℕ → Bool) → packed n (λ j. a && p j) ≡ (if a then packed n p else 0)
packed_if n true p = refl
packed_if n false p = packed_none n

module _ {A : Type 0} where
  pub counted_same : (n : ℕ) (p q : ℕ → A) → ((k : ℕ) → k < n → p k ≡ q k) → counted n p ≡ counted n q
  unfolding counted
  counted_same zero p q e = refl
  counted_same (suc n) p q e = ap₂ (λ (x : List A) (y : A). x ++ (y ∷ [])) (counted_same n p q (λ k h. e k (omega arith))) (e n (omega arith))

  pub counted_const : (n : ℕ) (x : A) → counted n (λ k. x) ≡ replicate n x
  unfolding counted
  counted_const zero x = refl
  counted_const (suc n) x = ap (λ (l : List A). l ++ (x ∷ [])) (counted_const n x) ∙ last n x
    where
      last : (n : ℕ) (x : A) → replicate n x ++ (x ∷ []) ≡ replicate (suc n) x
      last zero x = refl
      last (suc n) x = ap (λ (l : List A). x ∷ l) (last n x)

  pub counted_more : (at : ℕ → A) (f : ℕ) (out : List A) (x : A) → f < length out → x ≡ at f → take f out ≡ counted f at → take (f + 1) (set out f x) ≡ counted (f + 1) at
  unfolding counted
  counted_more at f out x h ex e = rw (add-one, take-suc-set, e, ex)

  pub counted_done : (at : ℕ → A) (n : ℕ) (out : List A) → length out ≡ n → take n out ≡ counted n at → out ≡ counted n at
  counted_done at n out l e = sym (take_all n out (omega arith)) ∙ e

-- ---- no filters

any_none : (p : Filter → Bool) (n : ℕ) → any_slot p (replicate n none) ≡ false
unfolding any_slot
any_none p zero = refl
any_none p (suc n) = any_none p n

pub no_filter : (block : Bool) (n : ℕ) → map_bytes block (replicate n none) ≡ zeros map_size
unfolding map_bytes map_byte map_bit
no_filter block n =
    counted_same map_size (map_byte block (replicate n none)) (λ k. 0) (λ k g. packed_same 8 _ (λ j. false) (λ j l. any_none _ n) ∙ packed_none 8) ∙ counted_const map_size 0

-- the maps of a channel just opened
pub no_filters : maps none_yet ≡ zeros maps_size
unfolding maps none_yet
no_filters = ap₂ (λ (a b : List ℕ). a ++ b) (no_filter false most_places) (no_filter true most_places) ∙ zeros_join map_size map_size maps_size refl
