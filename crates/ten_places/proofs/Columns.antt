-- Values in columns, row by row: what validity is of n of them, and which value is at a row. Assumes nothing.
use mathlib.Core.Path.{◌≡◌, refl, sym, ap, ap₂, ◌∙◌}
use Prim.Native.Nat.{ℕ, zero, suc, ◌+◌, ◌*◌, ◌≤◌, ◌<◌}
use native.Mathlib.Nat.{zero-mul, suc-mul, suc_inj, suc-ne-zero, not-suc-le-zero, le_of_suc-le-suc, mul-le-mul_right, add_comm}
use native.Mathlib.Numerals.{add-one}
use native.Mathlib.Omega.{arith}
use mathlib.Core.Bool.{Bool, true, false, ◌&&◌}
use mathlib.Core.List.{List, [], ◌∷◌}
use lib.ListN.{length, get_or, take, drop, length-drop}
use lib.Seq.{drop-drop, length-take-le}
use lib.Dec.{eqb, leb}
use Rattle.codec.specs.Plain.{all, all_below, is_byte}
use Rattle.codec.specs.Word.{word_at}
use Rattle.codec.specs.Code.{Code, byte, word32, mark, both, via, such, many, get_all, valid_all, zipped, beside, each_via}
use Rattle.codec.proofs.Tests.{and_assoc}
use Rattle.codec.proofs.Lawful.{Lawful}
use Rattle.codec.proofs.Many.{get_all_long}
use Rattle.codec.proofs.Store.{checked_more}
use Rattle.codec.proofs.Lists.{all_take, all_drop}
use Rattle.codec.proofs.Word.{word_part}
use Rattle.machine.specs.Limits.{most_data}
use Rattle.layout.specs.Sizes.{number_size}
use Rattle.layout.specs.Record.{row}
use Rattle.stored_records.proofs.Parts.{Bytes, part_within, at_part, row_valid, row_got, byte_valid, word_valid, mark_is, mark_got}

-- ---- a test of each number below n

-- one more in a loop
pub below_more : (i : ℕ) (p : ℕ → Bool) (good : Bool) → good ≡ all_below i p → (good && p i) ≡ all_below (i + 1) p
unfolding all_below
below_more i p good g = ap (λ (b : Bool). b && p i) g ∙ ap (λ (k : ℕ). all_below k p) (sym (add-one i))

pub below_same : (n : ℕ) (p q : ℕ → Bool) → ((i : ℕ) → i < n → p i ≡ q i) → all_below n p ≡ all_below n q
unfolding all_below
below_same zero p q f = refl
below_same (suc n) p q f = ap₂ (λ (a b : Bool). a && b) (below_same n p q (λ i h. f i (omega arith))) (f n (omega arith))

and_four : (a b c d : Bool) → ((a && b) && (c && d)) ≡ ((a && c) && (b && d))
and_four true true c d = refl
and_four true false true d = refl
and_four true false false d = refl
and_four false b c d = refl

pub below_and : (n : ℕ) (p q : ℕ → Bool) → (all_below n p && all_below n q) ≡ all_below n (λ i. p i && q i)
unfolding all_below
below_and zero p q = refl
below_and (suc n) p q = and_four (all_below n p) (p n) (all_below n q) (q n) ∙ ap (λ (b : Bool). b && (p n && q n)) (below_and n p q)

-- from the front
below_first : (n : ℕ) (p : ℕ → Bool) → all_below (suc n) p ≡ (p 0 && all_below n (λ i. p (suc i)))
unfolding all_below
below_first zero p = go (p 0)
  where
    go : (b : Bool) → (true && b) ≡ (b && true)
    go true = refl
    go false = refl
below_first (suc n) p = ap (λ (b : Bool). b && p (suc n)) (below_first n p) ∙ sym (and_assoc (p 0) (all_below n (λ i. p (suc i))) (p (suc n)))

all_below_law : {A : Type 0} (p : A → Bool) (d : A) (xs : List A) → all p xs ≡ all_below (length xs) (λ i. p (get_or xs i d))
unfolding all_below
all_below_law p d [] = refl
all_below_law p d (x ∷ xs) = ap (λ (b : Bool). p x && b) (all_below_law p d xs) ∙ sym (below_first (length xs) (λ i. p (get_or (x ∷ xs) i d)))

-- ---- rows

-- a code of n values: what the row at i must be, and which value it holds
pub record Rows {A : Type 0} (n : ℕ) (c : Code (List A)) (d : A) (good : List ℕ → ℕ → Bool) (at : List ℕ → ℕ → A) : Type 0 where
  pub count : (m : List ℕ) → length (c.get m) ≡ n
  pub good_is : (m : List ℕ) → c.valid m ≡ all_below n (good m)
  pub at_is : (m : List ℕ) (i : ℕ) → i < n → get_or (c.get m) i d ≡ at m i

-- the bytes of the value at i
abbrev pub cell_at : {A : Type 0} → Code A → List ℕ → ℕ → List ℕ
cell_at c m i = take c.size (drop (i * c.size) m)

next_cell : {A : Type 0} (c : Code A) (m : List ℕ) (i : ℕ) → cell_at c (drop c.size m) i ≡ cell_at c m (suc i)
next_cell c m i =
    ap (λ (x : List ℕ). take c.size x) (drop-drop (i * c.size) c.size m ∙ ap (λ (k : ℕ). drop k m) (add_comm c.size (i * c.size) ∙ sym (suc-mul i c.size)))

module _ {A : Type 0} {c : Code A} (l : Lawful c) where
  get_all_at : (n : ℕ) (m : List ℕ) (i : ℕ) (d : A) → i < n → get_or (get_all c n m) i d ≡ c.get (cell_at c m i)
  get_all_at zero m i d h = absurd (not-suc-le-zero h)
  get_all_at (suc n) m zero d h = rw (zero-mul c.size)
  get_all_at (suc n) m (suc i) d h = get_all_at n (drop c.size m) i d (le_of_suc-le-suc h) ∙ ap c.get (next_cell c m i)

  valid_all_below : (n : ℕ) (m : List ℕ) → valid_all c n m ≡ all_below n (λ i. c.valid (cell_at c m i))
  unfolding all_below
  valid_all_below zero m = refl
  valid_all_below (suc n) m = checked_more c n m ∙ ap (λ (b : Bool). b && c.valid (cell_at c m n)) (valid_all_below n m)

  pub many_rows : (n : ℕ) (d : A) → Rows n (many n c) d (λ m i. c.valid (cell_at c m i)) (λ m i. c.get (cell_at c m i))
  unfolding many
  many_rows n d = record { count = get_all_long l n; good_is = valid_all_below n; at_is = λ m i h. get_all_at n m i d h }

  -- a column: the first n values of more bytes
  inside : (n : ℕ) (m : List ℕ) (i : ℕ) → i < n → cell_at c (take (n * c.size) m) i ≡ cell_at c m i
  inside n m i h =
      part_within (i * c.size) c.size (n * c.size) m (omega (arith, suc-mul i c.size, mul-le-mul_right {m = suc i} {n = n} c.size h))

module _ {A B : Type 0} where
  zip_count : (xs : List A) (ys : List B) → length xs ≡ length ys → length (zipped xs ys) ≡ length xs
  unfolding zipped
  zip_count [] ys h = refl
  zip_count (x ∷ xs) [] h = absurd (suc-ne-zero (length xs) h)
  zip_count (x ∷ xs) (y ∷ ys) h = ap suc (zip_count xs ys (suc_inj h))

  zip_at : (xs : List A) (ys : List B) (i : ℕ) (dx : A) (dy : B) → length xs ≡ length ys → get_or (zipped xs ys) i (dx, dy) ≡ (get_or xs i dx, get_or ys i dy)
  unfolding zipped
  zip_at [] [] i dx dy h = refl
  zip_at [] (y ∷ ys) i dx dy h = absurd (suc-ne-zero (length ys) (sym h))
  zip_at (x ∷ xs) [] i dx dy h = absurd (suc-ne-zero (length xs) h)
  zip_at (x ∷ xs) (y ∷ ys) zero dx dy h = refl
  zip_at (x ∷ xs) (y ∷ ys) (suc i) dx dy h = zip_at xs ys i dx dy (suc_inj h)

  pub beside_rows : (n : ℕ) {a : Code A} {bs : Code (List B)} {db : B} {good : List ℕ → ℕ → Bool} {at : List ℕ → ℕ → B} → Lawful a → (da : A) → Rows n bs db good at
      → Rows n (beside n a bs) (da, db) (λ m i. a.valid (cell_at a m i) && good (drop (n * a.size) m) i) (λ m i. (a.get (cell_at a m i), at (drop (n * a.size) m) i))
  unfolding beside via both many
  beside_rows n {a} {bs} {db} {good} {at} la da r =
      let front : List ℕ → List A = λ m. get_all a n (take (n * a.size) m) in
      let back : List ℕ → List B = λ m. bs.get (drop (n * a.size) m) in
      let same : (m : List ℕ) → length (front m) ≡ length (back m) = λ m. get_all_long la n (take (n * a.size) m) ∙ sym (r.count (drop (n * a.size) m)) in
      record {
        count = λ m. zip_count (front m) (back m) (same m) ∙ get_all_long la n (take (n * a.size) m);
        good_is =
            λ m.
            ap₂ (λ (x y : Bool). x && y)
            (valid_all_below la n (take (n * a.size) m) ∙ below_same n _ _ (λ i h. ap a.valid (inside la n m i h)))
            (r.good_is (drop (n * a.size) m))
            ∙ below_and n (λ i. a.valid (cell_at a m i)) (good (drop (n * a.size) m));
        at_is =
            λ m i h.
            zip_at (front m) (back m) i da db (same m)
            ∙ (λ j. ((get_all_at la n (take (n * a.size) m) i da h ∙ ap a.get (inside la n m i h)) j, r.at_is (drop (n * a.size) m) i h j));
      }

-- each row valid by itself, and its value passes the test
pub each_rows : {A B : Type 0} (n : ℕ) (f : B → A) (g : A → B) (p : A → Bool) {c : Code (List A)} {d : A} {good : List ℕ → ℕ → Bool} {at : List ℕ → ℕ → A}
    → Rows n c d good at → (m : List ℕ) → (each_via f g p c).valid m ≡ all_below n (λ i. good m i && p (at m i))
unfolding each_via via such
each_rows n f g p {c} {d} {good} {at} r m =
    ap₂ (λ (x y : Bool). x && y) (r.good_is m)
    (all_below_law p d (c.get m) ∙ ap (λ (k : ℕ). all_below k (λ i. p (get_or (c.get m) i d))) (r.count m) ∙ below_same n _ _ (λ i h. ap p (r.at_is m i h)))
    ∙ below_and n (good m) (λ i. p (at m i))

-- where the value at i of a column lies, which begins at b
pub cell_there : {A : Type 0} (c : Code A) (size b i : ℕ) (m x : List ℕ) → c.size ≡ size → x ≡ drop b m → cell_at c x i ≡ take size (drop (b + i * size) m)
cell_there c size b i m x e ex =
    ap₂ (λ (k : ℕ) (y : List ℕ). take k (drop (i * k) y)) e ex ∙ ap (λ (y : List ℕ). take size y) (drop-drop (i * size) b m)

-- ---- a byte, a mark, a word and twelve bytes of a column that begins at b

module _ (m : List ℕ) (t : Bytes m) (b i : ℕ) (x : List ℕ) (ex : x ≡ drop b m) where
  part_bytes : (k n : ℕ) → Bytes (take n (drop k m))
  part_bytes k n = all_take is_byte n (drop k m) (all_drop is_byte k m t)

  byte_there : cell_at byte x i ≡ take 1 (drop (b + i * 1) m)
  unfolding byte
  byte_there = cell_there byte 1 b i m x refl ex

  at_there : get_or (take 1 (drop (b + i * 1) m)) 0 0 ≡ get_or m (b + i) 0
  at_there = let e : b + i * 1 ≡ b + i = omega arith in at_part (b + i * 1) m ∙ ap (λ (k : ℕ). get_or m k 0) e

  pub byte_row : byte.valid (cell_at byte x i) ≡ true
  byte_row = ap byte.valid byte_there ∙ byte_valid _ (part_bytes (b + i * 1) 1)

  pub byte_row_got : byte.get (cell_at byte x i) ≡ get_or m (b + i) 0
  unfolding byte
  byte_row_got = ap byte.get byte_there ∙ at_there

  mark_there : cell_at mark x i ≡ take 1 (drop (b + i * 1) m)
  unfolding mark via such byte
  mark_there = cell_there mark 1 b i m x refl ex

  pub mark_row : mark.valid (cell_at mark x i) ≡ leb (get_or m (b + i) 0) 1
  mark_row = ap mark.valid mark_there ∙ mark_is _ (part_bytes (b + i * 1) 1) ∙ ap (λ (k : ℕ). leb k 1) at_there

  pub mark_row_got : mark.get (cell_at mark x i) ≡ eqb 1 (get_or m (b + i) 0)
  mark_row_got = ap mark.get mark_there ∙ mark_got _ ∙ ap (λ (k : ℕ). eqb 1 k) at_there

  row_there : cell_at row x i ≡ take most_data (drop (b + i * most_data) m)
  unfolding row many byte
  row_there = cell_there row most_data b i m x refl ex

  pub row_row : row.valid (cell_at row x i) ≡ true
  unfolding row
  row_row = ap row.valid row_there ∙ row_valid most_data _ (part_bytes (b + i * most_data) most_data)

  pub row_row_got : b + i * most_data + most_data ≤ length m → row.get (cell_at row x i) ≡ take most_data (drop (b + i * most_data) m)
  unfolding row
  row_row_got h = ap row.get row_there ∙ row_got most_data _ (length-take-le most_data (drop (b + i * most_data) m) (omega (arith, length-drop (b + i * most_data) m)))

  word_there : cell_at word32 x i ≡ take number_size (drop (b + i * number_size) m)
  unfolding word32
  word_there = cell_there word32 number_size b i m x refl ex

  pub word_row : word32.valid (cell_at word32 x i) ≡ true
  word_row = ap word32.valid word_there ∙ word_valid _ (part_bytes (b + i * number_size) number_size)

  pub word_row_got : word32.get (cell_at word32 x i) ≡ word_at (b + i * number_size) m
  unfolding word32
  word_row_got = ap word32.get word_there ∙ word_part (b + i * number_size) m
