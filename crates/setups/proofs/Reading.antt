-- Reading part by part: what was written is read wherever it stands, and what was read stands there. Assumes nothing.
use Rattle.std.specs.Prelude.{if◌then◌else◌}
use Prim.Native.Nat.{ℕ, ◌+◌, ◌-◌, ◌≤◌, ◌<◌}
use mathlib.Core.Path.{◌≡◌, refl, sym, ap, ◌∙◌, subst}
use mathlib.Core.Bool.{Bool, true, false}
use mathlib.Core.List.{List, [], ◌++◌, append_assoc, append-nil}
use mathlib.Core.Option.{Option, none, some, map, bind}
use native.Mathlib.Nat.{add-zero}
use native.Mathlib.Omega.{arith}
use borrow.Author.Tests.{le-leb, leb-true}
use lib.Dec.{T, leb, eqb, eqb→eq, eqb_refl}
use lib.ListN.{length, take, drop, length-append, length-drop, take-append-drop}
use lib.Seq.{drop-drop, drop-append_seam, take_at, get_or-drop, length-take-le}
use Rattle.codec.proofs.Tests.{T_true, true_T}
use Rattle.number.specs.Number.{largest, Found, number_in, bytes_of}
use Rattle.number.specs.Laws.{Bytes}
use Rattle.number.specs.Reads.{Reads, ◌>>=◌, done, bad, number, bytes, where_true, only}
use Rattle.machine.specs.Store.{nothing_after, read_whole}
use Rattle.number.proofs.Laws.{reads_back, writes_back, read_bounded}

pub same : {A : Type 0} {x y : A} → some x ≡ some y → x ≡ y
same e = cc

pub no_value : {A : Type 0} {B : Type 0} {x : A} → none ≡ some x → B
no_value e = let z : ◌≡◌ {A = ℕ} 0 1 = cc in absurd (omega arith)

-- ---- written, then read

-- the value is read from these bytes wherever they stand
abbrev pub Back : {A : Type 0} → Reads A → A → List ℕ → Type 0
Back p a w = (s rest : List ℕ) (at : ℕ) → drop at s ≡ w ++ rest → p s at ≡ some (a, at + length w)

-- one part, then another
pub then_back : {A B : Type 0} {p : Reads A} (q : A → Reads B) (a : A) (b : B) (w x : List ℕ) → Back p a w → Back (q a) b x → Back (p >>= q) b (w ++ x)
unfolding ◌>>=◌ bind
then_back {A} {B} {p} q a b w x f g s rest at e =
    let e1 : drop at s ≡ w ++ (x ++ rest) = e ∙ append_assoc w x rest in
    let e2 : drop (at + length w) s ≡ x ++ rest = sym (drop-drop (length w) at s) ∙ ap (λ (l : List ℕ). drop (length w) l) e1 ∙ drop-append_seam w (x ++ rest) in
    let long : at + length w + length x ≡ at + length (w ++ x) = omega (arith, length-append w x) in
    ap (λ (o : Option (A × ℕ)). bind o (λ r. q r.0 s r.1)) (f s (x ++ rest) at e1)
    ∙ g s rest (at + length w) e2
    ∙ ap (λ (n : ℕ). some (b, n)) long

-- and nothing more
pub last_back : {A B : Type 0} {p : Reads A} (q : A → Reads B) (a : A) (b : B) (w : List ℕ) → Back p a w → ((s : List ℕ) (at : ℕ) → q a s at ≡ some (b, at)) → Back (p >>= q) b w
unfolding ◌>>=◌ bind
last_back {A} {B} {p} q a b w f g s rest at e =
    ap (λ (o : Option (A × ℕ)). bind o (λ r. q r.0 s r.1)) (f s rest at e) ∙ g s (at + length w)

pub done_back : {A : Type 0} (a : A) → Back (done a) a []
unfolding done
done_back a s rest at e = ap (λ (n : ℕ). some (a, n)) (sym (add-zero at))

pub done_is : {A : Type 0} (a b : A) → a ≡ b → (s : List ℕ) (at : ℕ) → done a s at ≡ some (b, at)
unfolding done
done_is {A} a b e s at = ap (λ (v : A). some (v, at)) e

pub where_passes : {A : Type 0} (t : Bool) (a : A) → T t → (s : List ℕ) (at : ℕ) → where_true t a s at ≡ some (a, at)
unfolding where_true done
where_passes true a u s at = refl
where_passes false a u s at = absurd u

pub only_back : {A : Type 0} (t : A → Bool) {p : Reads A} (a : A) (w : List ℕ) → Back p a w → T (t a) → Back (only t p) a w
unfolding only
only_back t a w f u = last_back (λ v. where_true (t v) v) a a w f (where_passes (t a) a u)

pub number_back : (v : ℕ) → v ≤ largest → Back number v (bytes_of v)
unfolding number
number_back v h s rest at e =
    ap (λ (l : List ℕ). map (λ (f : Found). (f.value, at + f.size)) (number_in l)) e
    ∙ ap (λ (o : Option Found). map (λ (f : Found). (f.value, at + f.size)) o) (reads_back v rest h)

pub bytes_back : (n : ℕ) (w : List ℕ) → 0 < n → length w ≡ n → Back (bytes n) w w
unfolding bytes
bytes_back n w z l s rest at e =
    let long : length (drop at s) ≡ length w + length rest = ap length e ∙ length-append w rest in
    let room : at + n ≤ length s = omega (arith, length-drop at s) in
    let part : take n (drop at s) ≡ w = ap (λ (m : List ℕ). take n m) e ∙ take_at w rest n l in
    let next : at + n ≡ at + length w = omega arith in
    rw (le-leb (at + n) (length s) room, part, next)

-- the whole list
pub whole_back : {A : Type 0} {p : Reads A} (a : A) (w : List ℕ) → Back p a w → read_whole p w ≡ some a
unfolding read_whole nothing_after
whole_back {A} {p} a w f =
    let long : 0 + length w ≡ length w = omega arith in
    let h : p w 0 ≡ some (a, length w) = f w [] 0 (sym (append-nil w)) ∙ ap (λ (n : ℕ). some (a, n)) long in
    ap (nothing_after (length w)) h ∙ ap (λ (b : Bool). if b then some a else none) (T_true (eqb (length w) (length w)) (eqb_refl (length w)))

-- ---- read, so it stands there

-- one part and then another: both were read
pub record Split {A B : Type 0} (p : Reads A) (q : A → Reads B) (s : List ℕ) (at : ℕ) (b : B) (next : ℕ) : Type 0 where
  pub what : A
  pub place : ℕ
  pub first : p s at ≡ some (what, place)
  pub rest : q what s place ≡ some (b, next)

pub split : {A B : Type 0} (p : Reads A) (q : A → Reads B) (s : List ℕ) (at : ℕ) (b : B) (next : ℕ) → (p >>= q) s at ≡ some (b, next) → Split p q s at b next
unfolding ◌>>=◌ bind
split {A} {B} p q s at b next = go (p s at) refl
  where
    go : (o : Option (A × ℕ)) → p s at ≡ o → bind o (λ r. q r.0 s r.1) ≡ some (b, next) → Split p q s at b next
    go none e h = no_value h
    go (some r) e h = record { what = r.0; place = r.1; first = e; rest = h }

-- what was read at a place: its bytes stand there, up to the next
abbrev pub Stands : List ℕ → ℕ → List ℕ → ℕ → Type 0
Stands s at w next = drop at s ≡ w ++ drop next s

pub chain : (s : List ℕ) (at p n : ℕ) (w x : List ℕ) → Stands s at w p → Stands s p x n → Stands s at (w ++ x) n
chain s at p n w x e f = e ∙ ap (λ (l : List ℕ). w ++ l) f ∙ sym (append_assoc w x (drop n s))

pub done_there : {A : Type 0} (a b : A) (s : List ℕ) (at n : ℕ) → done a s at ≡ some (b, n) → (a ≡ b) × (at ≡ n)
unfolding done
done_there a b s at n e = (ap (λ r. r.0) (same e), ap (λ r. r.1) (same e))

pub bad_there : {A B : Type 0} (b : A) (s : List ℕ) (at n : ℕ) → bad s at ≡ some (b, n) → B
unfolding bad
bad_there b s at n e = no_value e

pub where_there : {A : Type 0} (t : Bool) (a b : A) (s : List ℕ) (at n : ℕ) → where_true t a s at ≡ some (b, n) → T t × ((a ≡ b) × (at ≡ n))
unfolding where_true bad
where_there true a b s at n e = (tt, done_there a b s at n e)
where_there false a b s at n e = no_value e

pub only_there : {A : Type 0} (t : A → Bool) (p : Reads A) (a : A) (s : List ℕ) (at n : ℕ) → only t p s at ≡ some (a, n) → (p s at ≡ some (a, n)) × T (t a)
unfolding only
only_there {A} t p a s at n e =
    let x = split p (λ v. where_true (t v) v) s at a n e in
    let y = where_there (t x.what) x.what a s x.place n x.rest in
    (x.first ∙ ap (λ (v : A). some (v, x.place)) y.1.0 ∙ ap (λ (k : ℕ). some (a, k)) y.1.1, subst (λ (v : A). T (t v)) y.1.0 y.0)

pub bytes_drop : (at : ℕ) (s : List ℕ) → Bytes s → Bytes (drop at s)
bytes_drop at s b i = subst (λ (n : ℕ). n < 256) (sym (get_or-drop at s i 0)) (b (at + i))

pub number_there : (s : List ℕ) (at v n : ℕ) → Bytes s → number s at ≡ some (v, n) → Stands s at (bytes_of v) n × (v ≤ largest)
unfolding number
number_there s at v n b = go (number_in (drop at s)) refl
  where
    go : (o : Option Found) → number_in (drop at s) ≡ o → map {B = ℕ × ℕ} (λ (f : Found). (f.value, at + f.size)) o ≡ some (v, n) → Stands s at (bytes_of v) n × (v ≤ largest)
    go none e h = no_value h
    go (some f) e h =
        let value : f.value ≡ v = ap (λ r. r.0) (same h) in
        let next : at + f.size ≡ n = ap (λ r. r.1) (same h) in
        let front : take f.size (drop at s) ≡ bytes_of v = sym (writes_back (drop at s) f (bytes_drop at s b) e) ∙ ap bytes_of value in
        let back : drop f.size (drop at s) ≡ drop n s = drop-drop f.size at s ∙ ap (λ (k : ℕ). drop k s) next in (
          sym (take-append-drop f.size (drop at s)) ∙ ap (λ (l : List ℕ). l ++ drop f.size (drop at s)) front ∙ ap (λ (l : List ℕ). bytes_of v ++ l) back,
          subst (λ (k : ℕ). k ≤ largest) value (read_bounded (drop at s) f e).value,
        )

-- raw bytes: so many, and they stand there
pub record Raw (k : ℕ) (s : List ℕ) (at : ℕ) (m : List ℕ) (n : ℕ) : Type 0 where
  pub stands : Stands s at m n
  pub long : length m ≡ k
  pub is : m ≡ take k (drop at s)

pub bytes_there : (k : ℕ) (s m : List ℕ) (at n : ℕ) → bytes k s at ≡ some (m, n) → Raw k s at m n
unfolding bytes
bytes_there k s m at n = go (leb (at + k) (length s)) refl
  where
    go : (t : Bool) → leb (at + k) (length s) ≡ t → if◌then◌else◌ {A = Option (List ℕ × ℕ)} t (some (take k (drop at s), at + k)) none ≡ some (m, n) → Raw k s at m n
    go false q h = no_value h
    go true q h =
        let is : take k (drop at s) ≡ m = ap (λ r. r.0) (same h) in
        let next : at + k ≡ n = ap (λ r. r.1) (same h) in
        let room : at + k ≤ length s = leb-true (at + k) (length s) q in
        let back : drop k (drop at s) ≡ drop n s = drop-drop k at s ∙ ap (λ (j : ℕ). drop j s) next in
        record {
          stands = sym (take-append-drop k (drop at s)) ∙ ap (λ (l : List ℕ). l ++ drop k (drop at s)) is ∙ ap (λ (l : List ℕ). m ++ l) back;
          long = ap length (sym is) ∙ length-take-le k (drop at s) (omega (arith, length-drop at s));
          is = sym is;
        }

-- the whole list: it was read up to its end
pub record Entire {A : Type 0} (p : Reads A) (s : List ℕ) (a : A) : Type 0 where
  pub next : ℕ
  pub ends : next ≡ length s
  pub read : p s 0 ≡ some (a, next)

pub whole_there : {A : Type 0} (p : Reads A) (s : List ℕ) (a : A) → read_whole p s ≡ some a → Entire p s a
unfolding read_whole nothing_after
whole_there {A} p s a = go (p s 0) refl
  where
    by : (r : A × ℕ) → p s 0 ≡ some r → (t : Bool) → eqb r.1 (length s) ≡ t → (if t then some r.0 else none) ≡ some a → Entire p s a
    by r e false q h = no_value h
    by r e true q h = record { next = r.1; ends = eqb→eq r.1 (length s) (true_T _ q); read = e ∙ ap (λ (v : A). some (v, r.1)) (same h) }

    go : (o : Option (A × ℕ)) → p s 0 ≡ o → nothing_after (length s) o ≡ some a → Entire p s a
    go none e h = no_value h
    go (some r) e h = by r e (eqb r.1 (length s)) refl h

-- ---- refused

pub then_none : {A B : Type 0} (p : Reads A) (q : A → Reads B) (s : List ℕ) (at : ℕ) → p s at ≡ none → (p >>= q) s at ≡ none
unfolding ◌>>=◌ bind
then_none {A} p q s at e = ap (λ (o : Option (A × ℕ)). bind o (λ r. q r.0 s r.1)) e

pub only_none : {A : Type 0} (t : A → Bool) (p : Reads A) (a : A) (s : List ℕ) (at n : ℕ) → p s at ≡ some (a, n) → t a ≡ false → only t p s at ≡ none
unfolding only ◌>>=◌ bind where_true bad
only_none {A} t p a s at n e f =
    ap (λ (o : Option (A × ℕ)). bind o (λ r. where_true (t r.0) r.0 s r.1)) e ∙ ap (λ (b : Bool). where_true b a s n) f

pub whole_none : {A : Type 0} (p : Reads A) (s : List ℕ) → p s 0 ≡ none → read_whole p s ≡ none
unfolding read_whole nothing_after
whole_none p s e = ap (nothing_after (length s)) e
