-- The two maps one after the other, as they are lent; zeros; a bit of a byte. Assumes nothing.
use mathlib.Core.Path.{◌≡◌, refl, sym, ap, ap₂, ◌∙◌}
use Prim.Native.Nat.{ℕ, zero, suc, ◌+◌, ◌/◌, ◌%◌, ◌^◌}
use native.Mathlib.Omega.{arith}
use mathlib.Core.Bool.{Bool, true, false, ◌&&◌}
use mathlib.Core.List.{List, [], ◌∷◌, ◌++◌, append-nil}
use lib.Dec.{eqb}
use lib.ListN.{length, get_or, take, drop, length-drop, drop_of_length-le}
use lib.Seq.{take_all, take_at, drop_at}
use lib.Pow.{shr-shr}
use borrow.Author.Tests.{eq-eqb, ne_eqb, eqb-true, eqb-false}
use borrow.Rule.Slice.PartMut.{put_mid, mid_of}
use Rattle.codec.specs.Plain.{zeros, all_zero}
use Rattle.codec.proofs.Lists.{zeros_join}
use Rattle.derived.specs.Derived.{same_bytes}
use Rattle.machine.specs.Filter.{Slots, Filter}
use Rattle.map_rule.specs.Map.{map_size, maps_size, bit_at, bit_in, map_bytes, maps}
use Rattle.map_rule.proofs.ByMap.{map_long}
use Rattle.layout.specs.Sizes.{filters_size}
use Rattle.layout.specs.Memory.{filters, mapped}
use Rattle.layout.proofs.Memory.{filters_lawful}
use Rattle.layout.proofs.Sizes.{filters_size_law}
use Rattle.filterbank.specs.Part.{Unmapped}
use Rattle.filterbank.proofs.Held.{any_flags, any_put}
use Rattle.filterbank.proofs.Mapped.{mapped_put}

-- ---- both halves written anew

module _ (n : ℕ) (map a b : List ℕ) (lm : length map ≡ n + n) (la : length a ≡ n) where
  pub two_halves : (j k : ℕ) → j ≡ n → k ≡ n → put_mid n k (put_mid 0 j map a) b ≡ a ++ b
  two_halves j k ej ek =
      let front : take n (a ++ drop j map) ≡ a = take_at a (drop j map) n la in
      let back : drop n (a ++ drop j map) ≡ drop j map = drop_at a (drop j map) n la in
      let none : drop k (drop j map) ≡ [] = drop_of_length-le (drop j map) {i = k} (omega (arith, length-drop j map)) in
      ap₂ (λ (x y : List ℕ). x ++ (b ++ drop k y)) front back ∙ ap (λ (x : List ℕ). a ++ (b ++ x)) none ∙ ap (λ (x : List ℕ). a ++ x) (append-nil b)

pub remade : (fs : Slots Filter) (map a b : List ℕ) (j k : ℕ) → length map ≡ maps_size → j ≡ map_size → k ≡ map_size → a ≡ map_bytes false fs → b ≡ map_bytes true fs
    → put_mid map_size k (put_mid 0 j map a) b ≡ maps fs
unfolding maps
remade fs map a b j k l ej ek ea eb = two_halves map_size map a b l (ap length ea ∙ map_long false fs) j k ej ek ∙ ap₂ (λ (x y : List ℕ). x ++ y) ea eb

-- behind the filters that they follow from
pub behind : (flags : ℕ) (m part ys : List ℕ) (k : ℕ) → Unmapped m → k ≡ maps_size → part ≡ take filters_size m → ys ≡ maps ((filters flags).get part)
    → put_mid filters_size k m ys ≡ (mapped flags).put ((filters flags).get (take filters_size m))
behind flags m part ys k u ek ep ey =
    let v = u.part in
    let f : List ℕ = take filters_size m in
    let none : drop k (drop filters_size m) ≡ [] = drop_of_length-le (drop filters_size m) {i = k} (omega (arith, length-drop filters_size m, u.long)) in
    let was : f ≡ (filters flags).put ((filters flags).get f) =
    sym ((filters_lawful v.flags).put_get f (v.long ∙ sym (filters_size_law v.flags)) v.valid) ∙ any_put v.flags flags ((filters v.flags).get f) ∙ ap (filters flags).put (any_flags v.flags flags f)
    in
    ap₂ (λ (x y : List ℕ). f ++ (x ++ y)) (ey ∙ ap (λ (p : List ℕ). maps ((filters flags).get p)) ep) none
    ∙ ap (λ (x : List ℕ). f ++ x) (append-nil (maps ((filters flags).get f)))
    ∙ ap (λ (x : List ℕ). x ++ maps ((filters flags).get f)) was
    ∙ sym (mapped_put flags ((filters flags).get f))

-- ---- both halves compared

same_parts : (a b m : List ℕ) → length m ≡ length a + length b → same_bytes m (a ++ b) ≡ (same_bytes (take (length a) m) a && same_bytes (drop (length a) m) b)
unfolding same_bytes
same_parts [] b m l = refl
same_parts (x ∷ a) b [] l = absurd (omega arith)
same_parts (x ∷ a) b (y ∷ m) l = ap (λ (t : Bool). eqb y x && t) (same_parts a b m (omega arith)) ∙ group (eqb y x) (same_bytes (take (length a) m) a) (same_bytes (drop (length a) m) b)
  where
    group : (p q r : Bool) → (p && (q && r)) ≡ ((p && q) && r)
    group true q r = refl
    group false q r = refl

pub fit_is : (fs : Slots Filter) (m : List ℕ) (s t : Bool) (j k : ℕ) → length m ≡ maps_size → j ≡ map_size → k ≡ map_size → s ≡ same_bytes (mid_of 0 j m) (map_bytes false fs) → t ≡ same_bytes (mid_of map_size k m) (map_bytes true fs)
    → (s && t) ≡ same_bytes m (maps fs)
unfolding maps
fit_is fs m s t j k l ej ek es et =
    let lp : length (map_bytes false fs) ≡ map_size = map_long false fs in
    let lb : length (map_bytes true fs) ≡ map_size = map_long true fs in
    let whole : take k (drop map_size m) ≡ drop map_size m = take_all k (drop map_size m) (omega (arith, length-drop map_size m)) in
    ap₂ (λ (a b : Bool). a && b) (es ∙ ap (λ (i : ℕ). same_bytes (take i m) (map_bytes false fs)) ej) (et ∙ ap (λ (x : List ℕ). same_bytes x (map_bytes true fs)) whole)
    ∙ ap (λ (i : ℕ). same_bytes (take i m) (map_bytes false fs) && same_bytes (drop i m) (map_bytes true fs)) (sym lp)
    ∙ sym (same_parts (map_bytes false fs) (map_bytes true fs) m (omega arith))

-- ---- zeros

either_way : (x y : ℕ) → eqb x y ≡ eqb y x
either_way x y = go (eqb y x) refl
  where
    go : (b : Bool) → eqb y x ≡ b → eqb x y ≡ b
    go true e = eq-eqb x y (sym (eqb-true y x e))
    go false e = ne_eqb x y (λ q. eqb-false y x e (sym q))

zero_same : (m : List ℕ) (n : ℕ) → length m ≡ n → all_zero m ≡ same_bytes m (zeros n)
unfolding same_bytes
zero_same [] zero l = refl
zero_same [] (suc n) l = absurd (omega arith)
zero_same (x ∷ m) zero l = absurd (omega arith)
zero_same (x ∷ m) (suc n) l = ap₂ (λ (a b : Bool). a && b) (either_way 0 x) (zero_same m n (omega arith))

pub none_fit : (fs : Slots Filter) (m : List ℕ) (r : Bool) → length m ≡ maps_size → zeros map_size ≡ map_bytes false fs → zeros map_size ≡ map_bytes true fs → r ≡ all_zero m → r ≡ same_bytes m (maps fs)
unfolding maps
none_fit fs m r l ep eb er =
    er ∙ zero_same m maps_size l ∙ ap (same_bytes m) (sym (zeros_join map_size map_size maps_size refl) ∙ ap₂ (λ (a b : List ℕ). a ++ b) ep eb)

-- ---- a bit

bit_shifted : (i n : ℕ) → eqb (n / 2 ^ i % 2) 1 ≡ bit_at i n
unfolding bit_at
bit_shifted zero n = let e : n / 1 ≡ n = omega arith in ap (λ (x : ℕ). eqb (x % 2) 1) e
bit_shifted (suc i) n =
    let e : suc i ≡ 1 + i = omega arith in
    ap (λ (x : ℕ). eqb (x % 2) 1) (ap (λ (j : ℕ). n / 2 ^ j) e ∙ sym (shr-shr n 1 i)) ∙ bit_shifted i (n / 2)

pub bit_is : (map : List ℕ) (id : ℕ) → eqb (get_or map (id / 8) 0 / 2 ^ (id % 8) % 2) 1 ≡ bit_in map id
unfolding bit_in
bit_is map id = bit_shifted (id % 8) (get_or map (id / 8) 0)
