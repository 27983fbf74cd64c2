-- What validity is of several values in a row and of a store of at most n, as a loop finds it out. Assumes nothing.
use mathlib.Core.Path.{◌≡◌, sym, ap, ap₂, ◌∙◌}
use Prim.Native.Nat.{ℕ, ◌+◌, ◌*◌, ◌≤◌, ◌<◌}
use native.Mathlib.Numerals.{add-one}
use native.Mathlib.Omega.{arith}
use mathlib.Core.Bool.{Bool, true, false, ◌&&◌}
use mathlib.Core.List.{List}
use lib.ListN.{length, get_or, take, drop, length-drop}
use lib.Seq.{drop-drop, take_all}
use borrow.Author.Tests.{le-leb, lt-leb}
use Rattle.codec.specs.Plain.{all_zero}
use Rattle.codec.specs.Code.{Code, up_to, valid_all}
use Rattle.codec.proofs.Store.{checked_more}
use Rattle.machine.specs.Limits.{record_size}
use Rattle.layout.proofs.Sizes.{out_size_law, in_size}
use Rattle.stored_records.specs.Held.{cell}

-- a turn: the value at i, which lies in the k bytes from a on, where the values begin at b
pub turn : {A : Type 0} (c : Code A) (n : ℕ) → c.size ≡ n → (b i a k : ℕ) (s : List ℕ) (good : Bool) → a ≡ b + i * n → k ≡ n
    → good ≡ valid_all c i (drop b s) → (good && c.valid (take k (drop a s))) ≡ valid_all c (i + 1) (drop b s)
turn c n z b i a k s good ea ek g =
    let e : take k (drop a s) ≡ take c.size (drop (i * c.size) (drop b s)) =
    ap₂ (λ (x y : ℕ). take x (drop y s)) (ek ∙ sym z) (ea ∙ ap (λ (x : ℕ). b + i * x) (sym z)) ∙ ap (λ (x : List ℕ). take c.size x) (sym (drop-drop (i * c.size) b s)) in
    ap₂ (λ (x : Bool) (y : List ℕ). x && c.valid y) g e ∙ sym (checked_more c i (drop b s)) ∙ ap (λ (j : ℕ). valid_all c j (drop b s)) (sym (add-one i))

module _ {A : Type 0} (c : Code A) (n : ℕ) (m : List ℕ) where
  pub store_over : n < get_or m 0 0 → false ≡ (up_to n c).valid m
  unfolding up_to
  store_over h = sym (ap (λ (b : Bool). b && valid_all c (get_or m 0 0) (drop 1 m) && all_zero (drop (get_or m 0 0 * c.size) (drop 1 m))) (lt-leb (get_or m 0 0) n h))

  pub store_is : (size z k : ℕ) → c.size ≡ size → get_or m 0 0 ≤ n → z ≡ 1 + get_or m 0 0 * size → length m ≤ z + k → (good : Bool) → good ≡ valid_all c (get_or m 0 0) (drop 1 m)
      → (good && all_zero (take k (drop z m))) ≡ (up_to n c).valid m
  unfolding up_to
  store_is size z k es h ez hk good g =
      let e : take k (drop z m) ≡ drop (get_or m 0 0 * c.size) (drop 1 m) =
      take_all k (drop z m) (omega (arith, length-drop z m)) ∙ ap (λ (x : ℕ). drop x m) (ez ∙ ap (λ (x : ℕ). 1 + get_or m 0 0 * x) (sym es)) ∙ sym (drop-drop (get_or m 0 0 * c.size) 1 m) in
      ap₂ (λ (x : Bool) (y : List ℕ). x && all_zero y) g e
      ∙ ap (λ (b : Bool). b && valid_all c (get_or m 0 0) (drop 1 m) && all_zero (drop (get_or m 0 0 * c.size) (drop 1 m))) (sym (le-leb (get_or m 0 0) n h))

-- ---- both kinds of records

pub cell_size : (sending : Bool) (flags : ℕ) → (cell sending flags).size ≡ record_size
unfolding cell
cell_size true flags = out_size_law flags
cell_size false flags = in_size flags
