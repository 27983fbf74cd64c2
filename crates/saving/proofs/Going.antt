-- Bytes written part by part from a place of a buffer on: what is done, and what is left. Assumes nothing.
use Prim.Native.Nat.{ℕ, ◌+◌, ◌≤◌}
use native.Mathlib.Omega.{arith}
use mathlib.Core.Path.{◌≡◌, refl, sym, ap, ap₂, ◌∙◌, subst}
use mathlib.Core.List.{List, [], ◌++◌, append-nil, append_assoc}
use lib.ListN.{length, take, drop, length-append, take-append-drop}
use lib.Seq.{drop-drop}
use borrow.Rule.Slice.PartMut.{put_mid}
use Rattle.number.specs.Number.{bytes_of}
use Rattle.number.specs.Place.{Written}
use Rattle.answers.specs.Put.{Put}
use Rattle.answers.proofs.Put.{put_number, put_same, put_length, put_then}

-- no bytes
pub put_nothing : (b : List ℕ) (at : ℕ) → Put b at [] at b
put_nothing b at =
    let z : at ≡ at + 0 = omega arith in
    record {
      ends = z;
      holds = sym (take-append-drop at b) ∙ ap₂ (λ (x : List ℕ) (k : ℕ). x ++ drop k b) (sym (append-nil (take at b))) z;
    }

-- over a part that was lent, the whole of it
pub put_over : (b ys xs : List ℕ) (at size n : ℕ) → size ≡ length xs → n ≡ at + length xs → ys ≡ xs → Put b at xs n (put_mid at size b ys)
put_over b ys xs at size n es en e =
    record {
      ends = en;
      holds =
          ap₂ (λ (l : List ℕ) (k : ℕ). take at b ++ (l ++ drop k (drop at b))) e es
          ∙ ap (λ (l : List ℕ). take at b ++ (xs ++ l)) (drop-drop (length xs) at b)
          ∙ sym (append_assoc (take at b) xs (drop (at + length xs) b));
    }

-- a number that is known to be another
pub value_fits : (v n : ℕ) (after : List ℕ) {k : ℕ} → k ≡ v → n + length (bytes_of v) ≤ length after → n + length (bytes_of k) ≤ length after
value_fits v n after {k} e h = omega (arith, ap (λ (j : ℕ). length (bytes_of j)) e)

pub put_value : {b after : List ℕ} {at n k v : ℕ} → k ≡ v → Written b at k n after → Put b at (bytes_of v) n after
put_value e w = put_same (ap bytes_of e) (put_number _ _ _ _ _ w)

-- of the bytes `whole`, which fit from `at` on, all but `rest` are written; `n` is the place after those
pub record Going (b : List ℕ) (at : ℕ) (whole rest : List ℕ) (n : ℕ) (after : List ℕ) : Type 0 where
  pub done : List ℕ
  pub is : done ++ rest ≡ whole
  pub put : Put b at done n after
  pub fits : at + length whole ≤ length b

pub going_from : (b : List ℕ) (at : ℕ) (whole : List ℕ) → at + length whole ≤ length b → Going b at whole whole at b
going_from b at whole h = record { done = []; is = refl; put = put_nothing b at; fits = h }

pub going_same : {b whole rest rest' after : List ℕ} {at n : ℕ} → rest ≡ rest' → Going b at whole rest n after → Going b at whole rest' n after
going_same {b} {whole} {after = after} {at} {n} e g = subst (λ (l : List ℕ). Going b at whole l n after) e g

module _ {b whole rest after : List ℕ} {at n : ℕ} (g : Going b at whole rest n after) where
  done_fits : at + length g.done ≤ length b
  done_fits = omega (arith, g.fits, ap length g.is, length-append g.done rest)

  pub going_long : length after ≡ length b
  going_long = put_length g.put done_fits

  -- what is left fits
  pub rest_fits : n + length rest ≤ length after
  rest_fits = omega (arith, g.fits, ap length g.is, length-append g.done rest, g.put.ends, going_long)

  -- the last part
  pub going_last : {m : ℕ} {later : List ℕ} → Put after n rest m later → Put b at whole m later
  going_last q = put_same g.is (put_then g.put done_fits q)

module _ {b whole after : List ℕ} {at n : ℕ} (ys rest : List ℕ) (g : Going b at whole (ys ++ rest) n after) where
  -- the next part fits, and it is written
  pub next_fits : n + length ys ≤ length after
  next_fits = omega (arith, rest_fits g, length-append ys rest)

  pub going_on : {m : ℕ} {later : List ℕ} → Put after n ys m later → Going b at whole rest m later
  going_on q = record { done = g.done ++ ys; is = append_assoc g.done ys rest ∙ g.is; put = put_then g.put (done_fits g) q; fits = g.fits }

pub going_done : {b whole after : List ℕ} {at n : ℕ} → Going b at whole [] n after → Put b at whole n after
going_done g = put_same (sym (append-nil g.done) ∙ g.is) g.put
