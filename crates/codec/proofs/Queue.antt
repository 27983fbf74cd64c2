-- A store of at most n values with a mark behind it, in bytes, and what code does to it in place: one more at the end; the mark set; the first k
-- given out; the first k gone. Assumes nothing.
use mathlib.Core.Path.{◌≡◌, refl, sym, ap, ◌∙◌}
use Prim.Native.Nat.{ℕ, suc, ◌+◌, ◌*◌, ◌-◌, ◌≤◌, ◌<◌}
use native.Mathlib.Nat.{suc-mul, mul-le-mul_right}
use native.Mathlib.Omega.{arith}
use mathlib.Core.Bool.{Bool, true, false}
use mathlib.Core.List.{List, [], ◌∷◌, ◌++◌}
use lib.ListN.{length, get_or, set, take, drop, length-append, length-drop}
use lib.Seq.{take-append-le, drop-append-le, get_or_at, set_at, set-append_left, length-take-le}
use lib.Dec.{T, eqb}
use borrow.Rule.Slice.PartMut.{put_mid}
use Rattle.codec.specs.Plain.{zeros}
use Rattle.codec.specs.Code.{Code, byte, both, via, such, mark, mark_of, up_to, put_all}
use Rattle.codec.proofs.Lists.{part_of_first}
use Rattle.codec.proofs.Lawful.{Lawful, mark_lawful, mark_ok}
use Rattle.codec.proofs.Many.{up_to_lawful, up_to_count, up_to_drop}
use Rattle.codec.proofs.Store as store

-- m is a store of xs, each in `size` bytes, and a mark
module _ {A : Type 0} {c : Code A} (l : Lawful c) (n size : ℕ) (es : c.size ≡ size) (xs : List A) (lost : Bool) {m : List ℕ} (is : m ≡ (both (up_to n c) mark).put (xs, lost)) (t : T ((up_to n c).ok xs)) where
  -- where the mark is
  abbrev at : ℕ
  at = 1 + n * size

  abbrev held : List ℕ
  held = (up_to n c).put xs

  abbrev end : List ℕ
  end = mark_of lost ∷ []

  few : length xs ≤ n
  few = up_to_count n c xs t

  store_long : (q : List A) → T ((up_to n c).ok q) → length ((up_to n c).put q) ≡ at
  unfolding up_to
  store_long q u = (up_to_lawful l n).long q u ∙ ap (λ (k : ℕ). 1 + n * k) es

  put_is : (q : List A) (b : Bool) → (both (up_to n c) mark).put (q, b) ≡ (up_to n c).put q ++ mark_of b ∷ []
  unfolding both mark via such byte
  put_is q b = refl

  bytes_are : m ≡ held ++ end
  bytes_are = is ∙ put_is xs lost

  pub count_is : get_or m 0 0 ≡ length xs
  unfolding up_to
  count_is = ap (λ (q : List ℕ). get_or q 0 0) bytes_are

  pub count_few : get_or m 0 0 ≤ n
  count_few = omega (arith, count_is, few)

  pub lost_is : eqb 1 (get_or m (1 + n * size) 0) ≡ lost
  unfolding mark via such byte
  lost_is =
      ap (λ (q : List ℕ). eqb 1 (get_or q at 0)) bytes_are
      ∙ ap (eqb 1) (get_or_at held (mark_of lost) [] 0 at (store_long xs t))
      ∙ mark_lawful.get_put lost (mark_ok lost)

  -- bytes of the values are bytes of the store
  cells_are : (k : ℕ) → k ≤ n * size → take k (drop 1 m) ≡ take k (drop 1 held)
  cells_are k h =
      let long = store_long xs t in
      ap (λ (q : List ℕ). take k (drop 1 q)) bytes_are
      ∙ ap (λ (q : List ℕ). take k q) (drop-append-le 1 held end (omega arith))
      ∙ take-append-le k (drop 1 held) end (omega (arith, length-drop 1 held))

  -- a change behind the count, and of the count, leaves the mark
  in_store : (a k v : ℕ) (ys : List ℕ) → 1 ≤ a → a + k ≤ 1 + n * size → set (put_mid a k m ys) 0 v ≡ set (put_mid a k held ys) 0 v ++ end
  in_store a k v ys g h =
      let long = store_long xs t in
      ap (λ (q : List ℕ). set (put_mid a k q ys) 0 v) bytes_are
      ∙ ap (λ (q : List ℕ). set q 0 v) (part_of_first a k held end ys (omega arith))
      ∙ set-append_left (put_mid a k held ys) end 0 v (omega (arith, length-append (take a held) (ys ++ drop k (drop a held)), length-take-le a held (omega arith)))

  -- one more behind those held, and the count goes up
  pub one_more : (y : A) {ys : List ℕ} (a k v : ℕ) → length xs < n → ys ≡ c.put y → a ≡ 1 + length xs * size → k ≡ size → v ≡ length xs + 1
      → set (put_mid a k m ys) 0 v ≡ (both (up_to n c) mark).put (xs ++ y ∷ [], lost)
  one_more y {ys} a k v h ey ea ek ev =
      in_store a k v ys (omega arith) (omega (arith, suc-mul (length xs) size, mul-le-mul_right {m = suc (length xs)} {n = n} size h))
      ∙ ap (λ (q : List ℕ). q ++ end) (store.one_more l n size es xs refl t y a k v h ey ea ek ev)
      ∙ sym (put_is (xs ++ y ∷ []) lost)

  -- none more, and the mark is set
  pub one_lost : set m (1 + n * size) 1 ≡ (both (up_to n c) mark).put (xs, true)
  one_lost = ap (λ (q : List ℕ). set q at 1) bytes_are ∙ set_at held (mark_of lost) [] 1 at (store_long xs t) ∙ sym (put_is xs true)

  -- the first k given out
  pub oldest_out : (k : ℕ) → k ≤ length xs → take (k * size) (drop 1 m) ≡ put_all c (take k xs)
  oldest_out k h =
      let f = few in
      let k_few : k ≤ n = omega arith in
      cells_are (k * size) (mul-le-mul_right size k_few) ∙ store.oldest_out l n size es xs refl t k h

  -- the first k gone, the others at the front, zeros behind them, and the mark cleared
  pub oldest_gone : (j : ℕ) {ys : List ℕ} (k v : ℕ) → j ≤ length xs → k ≡ length xs * size → ys ≡ drop (j * size) (take k (drop 1 m)) ++ zeros (j * size) → v ≡ length xs - j
      → set (set (put_mid 1 k m ys) 0 v) (1 + n * size) 0 ≡ (both (up_to n c) mark).put (drop j xs, false)
  oldest_gone j {ys} k v h ek ey ev =
      let fits : length xs * size ≤ n * size = mul-le-mul_right size few in
      let moved : ys ≡ drop (j * size) (take k (drop 1 held)) ++ zeros (j * size) = ey ∙ ap (λ (q : List ℕ). drop (j * size) q ++ zeros (j * size)) (cells_are k (omega arith)) in
      ap (λ (q : List ℕ). set q at 0) (in_store 1 k v ys (omega arith) (omega arith) ∙ ap (λ (q : List ℕ). q ++ end) (store.oldest_gone l n size es xs refl t j k v h ek moved ev))
      ∙ set_at ((up_to n c).put (drop j xs)) (mark_of lost) [] 0 at (store_long (drop j xs) (up_to_drop n c j xs t))
      ∙ sym (put_is (drop j xs) false)
