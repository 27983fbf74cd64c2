-- The laws of sums side by side. Assumes nothing.
use Prim.Native.Nat.{ℕ, zero, suc, ◌+◌, ◌*◌, ◌≤◌, ◌<◌}
use mathlib.Core.Path.{◌≡◌, refl, sym, ap, ap₂, ◌∙◌}
use mathlib.Core.Bool.{Bool, true, false}
use mathlib.Core.List.{List, [], ◌∷◌, ◌++◌}
use native.Mathlib.Nat.{add-zero, zero-add, add_assoc}
use native.Mathlib.Omega.{arith}
use lib.Dec.{eqb}
use lib.ListN.{length, get_or, set, length-set}
use borrow.Author.Tests.{eqb-true, eqb-false}
use lib.Seq.{set-append_left, get_or-set_same, get_or-set_other}
use Rattle.codec.specs.Plain.{zeros}
use Rattle.shift_places.specs.Places.{of_channel, of_report}
use Rattle.shift.specs.Report.{of_four}
use Rattle.shift_cells.specs.Sums.{plus, nothing, cell, on_line, Below, Added}

-- ---- plus

pub plus_zeros : (n : ℕ) (xs : List ℕ) → length xs ≡ n → plus xs (zeros n) ≡ xs
unfolding plus
plus_zeros zero [] e = refl
plus_zeros (suc n) [] e = absurd (omega arith)
plus_zeros zero (x ∷ xs) e = refl
plus_zeros (suc n) (x ∷ xs) e = ap₂ {C = List ℕ} (λ a b. a ∷ b) (add-zero x) (plus_zeros n xs (omega arith))

pub zeros_plus : (n : ℕ) (xs : List ℕ) → length xs ≡ n → plus (zeros n) xs ≡ xs
unfolding plus
zeros_plus zero xs e = refl
zeros_plus (suc n) [] e = absurd (omega arith)
zeros_plus (suc n) (x ∷ xs) e = ap₂ {C = List ℕ} (λ a b. a ∷ b) (zero-add x) (zeros_plus n xs (omega arith))

pub plus_assoc : (xs ys zs : List ℕ) → plus (plus xs ys) zs ≡ plus xs (plus ys zs)
unfolding plus
plus_assoc [] ys zs = refl
plus_assoc (x ∷ xs) [] zs = refl
plus_assoc (x ∷ xs) (y ∷ ys) [] = refl
plus_assoc (x ∷ xs) (y ∷ ys) (z ∷ zs) = ap₂ {C = List ℕ} (λ a b. a ∷ b) (add_assoc x y z) (plus_assoc xs ys zs)

pub get_d_plus : (xs ys : List ℕ) (k : ℕ) → get_or (plus xs ys) k 0 ≡ get_or xs k 0 + get_or ys k 0
unfolding plus
get_d_plus [] ys k = sym (zero-add (get_or ys k 0))
get_d_plus (x ∷ xs) [] k = sym (add-zero (get_or (x ∷ xs) k 0))
get_d_plus (x ∷ xs) (y ∷ ys) zero = refl
get_d_plus (x ∷ xs) (y ∷ ys) (suc k) = get_d_plus xs ys k

pub length_plus : (xs ys : List ℕ) → length xs ≡ length ys → length (plus xs ys) ≡ length xs
unfolding plus
length_plus [] ys e = sym e
length_plus (x ∷ xs) [] e = refl
length_plus (x ∷ xs) (y ∷ ys) e = ap suc (length_plus xs ys (omega arith))

pub plus_append : (xs ys us vs : List ℕ) → length xs ≡ length us → plus (xs ++ ys) (us ++ vs) ≡ plus xs us ++ plus ys vs
unfolding plus
plus_append [] ys [] vs e = refl
plus_append [] ys (u ∷ us) vs e = absurd (omega arith)
plus_append (x ∷ xs) ys [] vs e = absurd (omega arith)
plus_append (x ∷ xs) ys (u ∷ us) vs e = ap {B = List ℕ} (λ l. (x + u) ∷ l) (plus_append xs ys us vs (omega arith))

-- what is stored at a place is added there
pub set_plus : (xs : List ℕ) (k v : ℕ) → k < length xs → set xs k (get_or xs k 0 + v) ≡ plus xs (set (zeros (length xs)) k v)
unfolding plus
set_plus [] k v h = absurd (omega arith)
set_plus (x ∷ xs) zero v h = ap {B = List ℕ} (λ l. (x + v) ∷ l) (sym (plus_zeros (length xs) xs refl))
set_plus (x ∷ xs) (suc k) v h = ap₂ {C = List ℕ} (λ a b. a ∷ b) (sym (add-zero x)) (set_plus xs k v (omega arith))

-- ---- four channels

module _ (f g : ℕ → List ℕ) where
  pub four_same : ((i : ℕ) → i < 4 → f i ≡ g i) → of_four f ≡ of_four g
  unfolding of_four
  four_same e = λ j. e 0 (omega arith) j ++ (e 1 (omega arith) j ++ (e 2 (omega arith) j ++ e 3 (omega arith) j))

  pub four_plus : ((i : ℕ) → i < 4 → length (f i) ≡ length (g i)) → plus (of_four f) (of_four g) ≡ of_four (λ i. plus (f i) (g i))
  unfolding of_four
  four_plus e =
      plus_append (f 0) _ (g 0) _ (e 0 (omega arith))
      ∙ ap (λ (l : List ℕ). plus (f 0) (g 0) ++ l)
      (plus_append (f 1) _ (g 1) _ (e 1 (omega arith))
      ∙ ap (λ (l : List ℕ). plus (f 1) (g 1) ++ l) (plus_append (f 2) _ (g 2) _ (e 2 (omega arith))))

-- ---- one number of one channel

set_skip : (xs ys : List ℕ) (n w v : ℕ) → n ≡ length xs + w → set (xs ++ ys) n v ≡ xs ++ set ys w v
set_skip [] ys n w v e = let same : n ≡ w = omega arith in ap (λ (k : ℕ). set ys k v) same
set_skip (x ∷ xs) ys zero w v e = absurd (omega arith)
set_skip (x ∷ xs) ys (suc n) w v e = ap {B = List ℕ} (λ l. x ∷ l) (set_skip xs ys n w v (omega arith))

pub cell_long : (w v : ℕ) → length (cell w v) ≡ of_channel
unfolding cell
cell_long w v = length-set nothing w v

cell_at : (l w v : ℕ) → l < 4 → w < of_channel → set (zeros of_report) (l * of_channel + w) v ≡ on_line l (cell w v)
unfolding cell on_line of_four
cell_at zero w v h k = set_skip [] (zeros of_report) (0 * of_channel + w) w v (omega arith) ∙ set-append_left nothing (zeros 33) w v k
cell_at (suc zero) w v h k =
    set_skip nothing (zeros 33) (1 * of_channel + w) w v (omega arith) ∙ ap (λ (l : List ℕ). nothing ++ l) (set-append_left nothing (zeros 22) w v k)
cell_at (suc (suc zero)) w v h k =
    set_skip (zeros 22) (zeros 22) (2 * of_channel + w) w v (omega arith) ∙ ap (λ (l : List ℕ). zeros 22 ++ l) (set-append_left nothing nothing w v k)
cell_at (suc (suc (suc zero))) w v h k = set_skip (zeros 33) nothing (3 * of_channel + w) w v (omega arith)
cell_at (suc (suc (suc (suc l)))) w v h k = absurd (omega arith)

module _ (xs : List ℕ) (l w v : ℕ) (e : length xs ≡ of_report) (h : l < 4) (k : w < of_channel) where
  abbrev at : ℕ
  at = l * of_channel + w

  abbrev stored : List ℕ
  stored = set xs at (get_or xs at 0 + v)

  bounded : (bound : ℕ) → Below bound xs → Below (bound + v) stored
  bounded bound b j = by (eqb j at) refl
    where
      by : (g : Bool) → eqb j at ≡ g → get_or stored j 0 ≤ bound + v
      by true q =
          let s : get_or stored at 0 ≡ get_or xs at 0 + v = get_or-set_same xs at (get_or xs at 0 + v) 0 (omega arith) in
          let z : j ≡ at = eqb-true j at q in
          omega (arith, b at, ap (λ (i : ℕ). get_or stored i 0) z)
      by false q = omega (arith, b j, get_or-set_other xs at j (get_or xs at 0 + v) 0 (eqb-false j at q))

  pub added : Added xs stored l w v
  added =
      record {
        is = set_plus xs at v (omega arith) ∙ ap (λ (n : ℕ). plus xs (set (zeros n) at v)) e ∙ ap (plus xs) (cell_at l w v h k);
        long = length-set xs at (get_or xs at 0 + v);
        most = bounded;
      }
