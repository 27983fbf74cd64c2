-- A part of some bytes, lent as a slice: its bytes, its value, and the bytes with another value there; numbers and marks in such parts. Assumes nothing.
use mathlib.Core.Path.{◌≡◌, refl, sym, ap, ap₂, ◌∙◌, subst}
use Prim.Native.Nat.{ℕ, zero, suc, ◌+◌, ◌≤◌, ◌<◌}
use native.Mathlib.Omega.{arith}
use mathlib.Core.Bool.{Bool}
use mathlib.Core.List.{List, [], ◌∷◌, ◌++◌}
use lib.ListN.{length, get_or, set, take, drop}
use lib.Seq.{drop-drop, get_or-take, get_or-drop, set_split}
use lib.Dec.{T, eqb}
use borrow.Rule.Slice.PartMut.{put_mid}
use Rattle.codec.specs.Word.{word_at}
use Rattle.codec.specs.Code.{Code, byte, word32, via, such, mark, mark_of}
use Rattle.codec.proofs.Lawful.{Lawful}
use Rattle.codec.proofs.Place.{Place, slice_is, overwritten}
use Rattle.codec.proofs.Word.{word_part}

-- a part of the bytes r, lent as n bytes from `off` on, holds x by the code d; with another value b there they are those of `w b` by the code c
pub record Part {A : Type 0} (c : Code A) (r : List ℕ) {B : Type 0} (d : Code B) (off n : ℕ) (x : B) (w : B → A) : Type 0 where
  pub long : length (take n (drop off r)) ≡ n
  pub is : take n (drop off r) ≡ d.put x
  pub valid : T (d.valid (take n (drop off r)))
  pub got : d.get (take n (drop off r)) ≡ x
  pub becomes : (ys : List ℕ) (b : B) → ys ≡ d.put b → put_mid off n r ys ≡ c.put (w b)

-- by the place of a value in another, whose bytes they are
pub part : {A : Type 0} {c : Code A} {a : A} (r : List ℕ) → c.put a ≡ r → {B : Type 0} {d : Code B} {off : ℕ} {x : B} {w : B → A} (n : ℕ) → d.size ≡ n → Place c d a off x w
    → Lawful d → T (d.ok x) → Part c r d off n x w
part {c = c} r kept {d = d} {off = off} {x = x} {w = w} n e p l t =
    let k : r ≡ c.put _ = sym kept in
    let is : take n (drop off r) ≡ d.put x = ap₂ (λ (j : ℕ) (m : List ℕ). take j (drop off m)) (sym e) k ∙ slice_is p (l.long x t) in
    record {
      long = ap length is ∙ l.long x t ∙ e;
      is = is;
      valid = subst (λ (m : List ℕ). T (d.valid m)) (sym is) (l.valid_put x t);
      got = ap d.get is ∙ l.get_put x t;
      becomes =
          λ ys b y.
          ap (λ (z : List ℕ). put_mid off n r z) y
          ∙ ap (λ (z : List ℕ). take off r ++ (d.put b ++ z)) (drop-drop n off r ∙ ap (λ (j : ℕ). drop (off + j) r) (sym e))
          ∙ ap (λ (z : List ℕ). take off z ++ (d.put b ++ drop (off + d.size) z)) k
          ∙ overwritten p (l.long x t) b;
    }

-- a byte of the whole, by the bytes of the part that it is in
pub byte_of : {A : Type 0} {c : Code A} {r : List ℕ} {B : Type 0} {d : Code B} {off n : ℕ} {x : B} {w : B → A} → Part c r d off n x w → (i : ℕ) → i < n → get_or r (off + i) 0 ≡ get_or (d.put x) i 0
byte_of {r = r} {off = off} {n = n} p i h = sym (get_or-take n (drop off r) i 0 h ∙ get_or-drop off r i 0) ∙ ap (λ (m : List ℕ). get_or m i 0) p.is

-- a number of the whole
pub word_of : {A : Type 0} {c : Code A} {r : List ℕ} {off x : ℕ} {w : ℕ → A} → Part c r word32 off 4 x w → word_at off r ≡ x
unfolding word32
word_of {r = r} {off = off} p = sym (word_part off r) ∙ p.got

-- a mark of the whole, and the whole with another one stored there
mark_is : (n : ℕ) → n ≤ 1 → n ∷ [] ≡ mark.put (eqb 1 n)
unfolding mark via such byte
mark_is zero h = refl
mark_is (suc zero) h = refl
mark_is (suc (suc n)) h = absurd (omega arith)

pub mark_of_law : {A : Type 0} {c : Code A} {r : List ℕ} {off : ℕ} {x : Bool} {w : Bool → A} → Part c r mark off 1 x w → get_or r off 0 ≡ mark_of x
unfolding mark via such byte
mark_of_law {r = r} {off = off} p = let z : off ≡ off + 0 = omega arith in ap (λ (k : ℕ). get_or r k 0) z ∙ byte_of p 0 (omega arith)

pub mark_stored : {A : Type 0} {c : Code A} {r : List ℕ} {off : ℕ} {x : Bool} {w : Bool → A} → Part c r mark off 1 x w → off < length r → (n : ℕ) → n ≤ 1 → set r off n ≡ c.put (w (eqb 1 n))
mark_stored {r = r} {off = off} p h n b =
    let s : suc off ≡ off + 1 = omega arith in
    set_split r off n h
    ∙ ap (λ (x : List ℕ). take off r ++ n ∷ x) (ap (λ (k : ℕ). drop k r) s ∙ sym (drop-drop 1 off r))
    ∙ p.becomes (n ∷ []) (eqb 1 n) (mark_is n b)
