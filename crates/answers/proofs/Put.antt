-- Bytes written at a place of a buffer: one after the other, in front of others, and into a part that was lent. Assumes nothing.
use Prim.Native.Nat.{ℕ, suc, ◌+◌, ◌≤◌, ◌<◌}
use mathlib.Core.Path.{◌≡◌, sym, ap, ap₂, ◌∙◌, subst}
use mathlib.Core.List.{List, ◌∷◌, ◌++◌, append-nil, append_assoc}
use native.Mathlib.Omega.{arith}
use lib.ListN.{length, take, drop, set, length-append, length-take, length-drop, take-append-drop}
use lib.Seq.{length-take-le, take_at, drop_at, take-append-le, take-take, drop-drop, drop-append-le, set_split}
use borrow.Author.Tests.{eq-eqb, ne_eqb}
use borrow.Rule.Slice.PartMut.{put_mid, mid_of}
use Rattle.std.specs.Prelude.{Result, Ok, Err}
use Rattle.codes.specs.Code.{number_of, code_of, value_of}
use Rattle.codes.specs.declared.Refusal.{Refusal}
use Rattle.codes.proofs.Laws.{not_done}
use Rattle.number.specs.Number.{bytes_of}
use Rattle.number.specs.Place.{Written}
use Rattle.number.proofs.Laws.{written_short}
use Rattle.answers.specs.Output.{on_done, numbered, counted}
use Rattle.answers.specs.Put.{Put}

-- a number
pub put_number : (b after : List ℕ) (at v n : ℕ) → Written b at v n after → Put b at (bytes_of v) n after
put_number b after at v n w = record { ends = w.ends; holds = w.holds }

-- the same bytes
pub put_same : {b after : List ℕ} {at n : ℕ} {xs ys : List ℕ} → xs ≡ ys → Put b at xs n after → Put b at ys n after
put_same {b} {after} {at} {n} e p = subst (λ (l : List ℕ). Put b at l n after) e p

module _ {b after xs : List ℕ} {at n : ℕ} (p : Put b at xs n after) (room : at + length xs ≤ length b) where
  front : length (take at b ++ xs) ≡ n
  front = omega (arith, length-append (take at b) xs, length-take-le at b (omega arith), p.ends)

  apart : after ≡ (take at b ++ xs) ++ drop n b
  apart = p.holds ∙ ap (λ (k : ℕ). take at b ++ xs ++ drop k b) (sym p.ends)

  -- the buffer keeps its length
  pub put_length : length after ≡ length b
  put_length = omega (arith, ap length apart, length-append (take at b ++ xs) (drop n b), front, length-drop n b, p.ends)

  -- what stands up to the place after the bytes, and what behind it
  pub put_front : take n after ≡ take at b ++ xs
  put_front = ap (take n) apart ∙ take_at (take at b ++ xs) (drop n b) n front

  put_behind : drop n after ≡ drop n b
  put_behind = ap (drop n) apart ∙ drop_at (take at b ++ xs) (drop n b) n front

  -- more bytes behind these
  pub put_then : {ys later : List ℕ} {m : ℕ} → Put after n ys m later → Put b at (xs ++ ys) m later
  put_then {ys} {later} {m} q =
      let size : length (xs ++ ys) ≡ length xs + length ys = length-append xs ys in
      let end : n + length ys ≡ at + length (xs ++ ys) = omega (arith, p.ends) in
      record {
        ends = omega (arith, q.ends, p.ends);
        holds =
            q.holds ∙ ap₂ (λ (x y : List ℕ). x ++ ys ++ y) put_front (sym (drop-drop (length ys) n after) ∙ ap (drop (length ys)) put_behind ∙ drop-drop (length ys) n b)
            ∙ ap₂ (λ (x : List ℕ) (k : ℕ). x ++ drop k b) (append_assoc (take at b) xs ys) end;
      }

-- a byte in front of these
pub put_before : {b after xs : List ℕ} {at n : ℕ} (x : ℕ) → Put b (at + 1) xs n after → at + 1 + length xs ≤ length b → Put b at (x ∷ xs) n (set after at x)
put_before {b} {after} {xs} {at} {n} x p room =
    let r : List ℕ = drop (at + 1 + length xs) b in
    let long : length (take (at + 1) b) ≡ suc at = omega (arith, length-take-le (at + 1) b (omega arith)) in
    let inside : at < length after = omega (arith, put_length p room) in
    let end : at + 1 + length xs ≡ at + length (x ∷ xs) = omega arith in
    let is : after ≡ take (at + 1) b ++ (xs ++ r) = p.holds ∙ append_assoc (take (at + 1) b) xs r in
    record {
      ends = omega (arith, p.ends);
      holds =
          set_split after at x inside
          ∙ ap₂ (λ (y z : List ℕ). y ++ x ∷ z)
          (ap (take at) is ∙ take-append-le at (take (at + 1) b) (xs ++ r) (omega (arith, long)) ∙ take-take at (at + 1) b (omega arith))
          (ap (drop (suc at)) is ∙ drop_at (take (at + 1) b) (xs ++ r) (suc at) long)
          ∙ sym (append_assoc (take at b) (x ∷ xs) r) ∙ ap (λ (k : ℕ). take at b ++ (x ∷ xs) ++ drop k b) end;
    }

-- into a part that was lent: bytes at its start, which take the place of as many, and its other bytes stay
pub put_lent : (b ys xs : List ℕ) (at size n : ℕ) → at + size ≤ length b → n ≤ size → length xs ≡ n → ys ≡ xs ++ drop n (mid_of at size b) → Put b at xs (at + n) (put_mid at size b ys)
put_lent b ys xs at size n room few long e =
    record {
      ends = ap (λ (k : ℕ). at + k) (sym long);
      holds =
          ap (λ (l : List ℕ). take at b ++ (l ++ drop size (drop at b))) e
          ∙ ap (λ (l : List ℕ). take at b ++ l) (append_assoc xs (drop n (take size (drop at b))) (drop size (drop at b)) ∙ ap (λ (l : List ℕ). xs ++ l) rest)
          ∙ sym (append_assoc (take at b) xs (drop (at + length xs) b));
    }
  where
    rest : drop n (take size (drop at b)) ++ drop size (drop at b) ≡ drop (at + length xs) b
    rest =
        sym (drop-append-le n (take size (drop at b)) (drop size (drop at b)) (omega (arith, length-take size (drop at b), length-drop at b)))
        ∙ ap (drop n) (take-append-drop size (drop at b)) ∙ drop-drop n at b ∙ ap (λ (k : ℕ). drop (at + k) b) (sym long)

-- ---- two numbers

-- a number takes five bytes at most
pub number_fits : (b : List ℕ) (at v : ℕ) → at + 5 ≤ length b → at + length (bytes_of v) ≤ length b
number_fits b at v room = omega (arith, (written_short v).1)

module _ {b after : List ℕ} {at code n : ℕ} (w : Written b at code n after) (room : at + 10 ≤ length b) where
  first : Put b at (bytes_of code) n after
  first = put_number b after at code n w

  first_fits : at + length (bytes_of code) ≤ length b
  first_fits = number_fits b at code (omega arith)

  -- there is room for the second
  pub second_fits : (v : ℕ) → n + length (bytes_of v) ≤ length after
  second_fits v = number_fits after n v (omega (arith, put_length first first_fits, first.ends, (written_short code).1))

  -- a code and a count
  pub put_counted : {later : List ℕ} {m : ℕ} (v : ℕ) → Written after n v m later → Put b at (counted code v) m later
  put_counted {later} {m} v x = put_then first first_fits (put_number after later n v m x)

  -- a code and, where it is 0, a number
  pub put_done_law : {later : List ℕ} {m : ℕ} (v : ℕ) → code ≡ 0 → Written after n v m later → Put b at (numbered code v) m later
  unfolding on_done
  put_done_law v e x = rw (eq-eqb code 0 e) (put_counted v x)

  pub put_refused : (v : ℕ) → (code ≡ 0 → ⊥) → Put b at (numbered code v) n after
  unfolding on_done
  put_refused v e = rw (ne_eqb code 0 e, append-nil (bytes_of code)) first

-- ---- an answer: its code and, where it is no refusal, its number
abbrev told : Result ℕ Refusal → List ℕ
told a = numbered (code_of a) (value_of a)

module _ {b after : List ℕ} {at code n : ℕ} (w : Written b at code n after) (room : at + 10 ≤ length b) {a : Result ℕ Refusal} (is : code ≡ code_of a) where
  pub put_ok : {v : ℕ} → a ≡ Ok v → {later : List ℕ} {m : ℕ} → Written after n v m later → Put b at (told a) m later
  put_ok {v} q {later} {m} x =
      let done : code ≡ 0 = is ∙ ap (λ (r : Result ℕ Refusal). code_of r) q in
      subst (λ (r : Result ℕ Refusal). Put b at (told r) m later) (sym q)
      (subst (λ (k : ℕ). Put b at (numbered k v) m later) done (put_done_law w room v done x))

  pub put_err : {e : Refusal} → a ≡ Err e → Put b at (told a) n after
  put_err {e} q =
      let refused : code ≡ number_of e = is ∙ ap (λ (r : Result ℕ Refusal). code_of r) q in
      subst (λ (r : Result ℕ Refusal). Put b at (told r) n after) (sym q)
      (subst (λ (k : ℕ). Put b at (numbered k 0) n after) refused (put_refused w room 0 (λ z. not_done e (sym refused ∙ z))))
