-- What the answers for the parts of a store say of them: numbers, clean records, and any part by the place after it. Assumes nothing.
use Rattle.std.specs.Prelude.{if◌then◌else◌}
use Prim.Native.Nat.{ℕ, ◌+◌, ◌-◌, ◌≤◌, ◌<◌}
use mathlib.Core.Path.{◌≡◌, refl, sym, ap, ◌∙◌}
use mathlib.Core.Bool.{Bool, true, false, ◌&&◌}
use mathlib.Core.List.{List, [], ◌∷◌}
use mathlib.Core.Option.{Option, none, some, map, bind}
use native.Mathlib.Omega.{arith}
use borrow.Author.Tests.{le-leb, lt-leb, leb-true}
use lib.Dec.{eqb, leb}
use lib.ListN.{length, take, drop, length-drop}
use lib.Seq.{take_all, length-take-le}
use Rattle.codec.specs.Word.{word_at}
use Rattle.codec.proofs.Tests.{T_false}
use Rattle.std.specs.Prelude as std
use Rattle.number.specs.declared.Number.{Number}
use Rattle.number.specs.Number.{Found, number_in}
use Rattle.number.specs.Place.{answer, number_at}
use Rattle.number.specs.Laws.{Ends}
use Rattle.number.specs.Reads.{Reads, ◌>>=◌, done, bad, number, bytes, where_true, only}
use Rattle.number.proofs.Laws.{read_ends}
use Rattle.machine.specs.Limits.{record_size, size_in, data_in}
use Rattle.machine.specs.Message.{shown, size_of, wide_of, data_of, clean}
use Rattle.machine.specs.Store.{same_bytes, is_clean, clean_in}
use Rattle.derived.specs.Derived as derived
use Rattle.setups.proofs.Reading.{same, no_value, only_there}
use Rattle.setups.proofs.Records.{same_sound, shown_size}
use Rattle.store_records.specs.Places.{after_of}

-- ---- any part

-- it was read, and this is the place after it
pub record There {A : Type 0} (p : Reads A) (s : List ℕ) (at next : ℕ) : Type 0 where
  pub what : A
  pub is : p s at ≡ some (what, next)

module _ {A : Type 0} (p : Reads A) (s : List ℕ) (at : ℕ) where
  pub place_good : {n : ℕ} → some n ≡ after_of (p s at) → There p s at n
  unfolding after_of
  place_good {n} = go (p s at) refl
    where
      go : (o : Option (A × ℕ)) → p s at ≡ o → some n ≡ after_of o → There p s at n
      go none q h = no_value (sym h)
      go (some x) q h = record { what = x.0; is = q ∙ ap (λ (k : ℕ). some (x.0, k)) (sym (same h)) }

  pub place_bad : none ≡ after_of (p s at) → p s at ≡ none
  unfolding after_of
  place_bad = go (p s at)
    where
      go : (o : Option (A × ℕ)) → none ≡ after_of o → o ≡ none
      go none h = refl
      go (some x) h = no_value h

-- ---- a number

module _ (s : List ℕ) (at : ℕ) where
  abbrev pair_at : Found → ℕ × ℕ
  pair_at f = (f.value, at + f.size)

  pub number_ends : {v n : ℕ} → number s at ≡ some (v, n) → Ends s at v n
  unfolding number number_at answer
  number_ends {v} {n} = go (number_in (drop at s)) refl
    where
      go : (o : Option Found) → number_in (drop at s) ≡ o → map pair_at o ≡ some (v, n) → Ends s at v n
      go none q h = no_value h
      go (some f) q h = read_ends s at v n (ap (answer at) q ∙ ap (λ p. std.Some (record { value = p.0; next = p.1 })) (same h))

  pub number_good : {f : Number} → std.Some f ≡ number_at s at → number s at ≡ some (f.value, f.next)
  unfolding number_at answer number
  number_good {f} = go (number_in (drop at s))
    where
      go : (o : Option Found) → std.Some f ≡ answer at o → map pair_at o ≡ some (f.value, f.next)
      go none h = cc
      go (some k) h =
          let is : ◌≡◌ {A = Number} (record { value = k.value; next = at + k.size }) f = cc in
          ap (λ (x : Number). some (x.value, x.next)) is

  pub number_bad : std.None ≡ number_at s at → number s at ≡ none
  unfolding number_at answer number
  number_bad = go (number_in (drop at s))
    where
      go : (o : Option Found) → std.None ≡ answer at o → map pair_at o ≡ none
      go none h = refl
      go (some f) h = cc

-- ---- a clean record

-- the two ways to say that bytes are the same
pub alike : (xs ys : List ℕ) → derived.same_bytes xs ys ≡ same_bytes xs ys
unfolding same_bytes derived.same_bytes
alike [] [] = refl
alike [] (y ∷ ys) = refl
alike (x ∷ xs) [] = refl
alike (x ∷ xs) (y ∷ ys) = ap (λ (b : Bool). eqb x y && b) (alike xs ys)

-- a record with more data than there is room for isn't clean
pub too_long : (m : List ℕ) → length m ≡ record_size → 12 < word_at size_in m → false ≡ is_clean m
unfolding is_clean size_of data_of clean
too_long m long h =
    let rest : length (drop data_in m) ≡ 12 = omega (arith, length-drop data_in m) in
    let held : length (data_of m) ≡ 12 = ap length (take_all (word_at size_in m) (drop data_in m) (omega arith)) ∙ rest in
    sym (T_false (is_clean m) (λ t.
    let e : word_at size_in m ≡ length (data_of m) = ap size_of (same_sound m (shown (clean m)) t) ∙ shown_size (wide_of m) (data_of m) (omega arith) in
    omega arith))

-- the bytes from one place to another
abbrev pub part : List ℕ → ℕ → ℕ → List ℕ
part s at next = take (next - at) (drop at s)

-- where it is, and what
pub record CleanAt (s : List ℕ) (at next : ℕ) : Type 0 where
  pub is : clean_in s at ≡ some (part s at next, next)
  pub ends : next ≡ at + record_size
  pub inside : next ≤ length s

module _ (s : List ℕ) (at : ℕ) where
  pub clean_cut : length s < at + record_size → clean_in s at ≡ none
  unfolding clean_in only ◌>>=◌ bind bytes
  clean_cut h = rw (lt-leb (at + record_size) (length s) h)

  pub clean_by : (b : Bool) → at + record_size ≤ length s → b ≡ is_clean (part s at (at + record_size))
      → after_of (clean_in s at) ≡ (if b then some (at + record_size) else none)
  unfolding clean_in only ◌>>=◌ bind bytes where_true bad done after_of
  clean_by b h e =
      let long : at + record_size - at ≡ record_size = omega arith in
      let now' : is_clean (take record_size (drop at s)) ≡ b = sym (e ∙ ap (λ (k : ℕ). is_clean (take k (drop at s))) long) in
      rw (le-leb (at + record_size) (length s) h, now') (go b)
    where
      go : (t : Bool) → after_of ((if t then done (take record_size (drop at s)) else bad) s (at + record_size)) ≡ (if t then some (at + record_size) else none)
      go true = refl
      go false = refl

  pub clean_there : {m : List ℕ} {n : ℕ} → clean_in s at ≡ some (m, n) → CleanAt s at n
  unfolding clean_in bytes
  clean_there {m} {n} e = go (leb (at + record_size) (length s)) refl (only_there is_clean (bytes record_size) m s at n e).0
    where
      go : (t : Bool) → leb (at + record_size) (length s) ≡ t → if◌then◌else◌ {A = Option (List ℕ × ℕ)} t (some (take record_size (drop at s), at + record_size)) none ≡ some (m, n) → CleanAt s at n
      go false q h = no_value h
      go true q h =
          let room : at + record_size ≤ length s = leb-true (at + record_size) (length s) q in
          let next : at + record_size ≡ n = ap (λ r. r.1) (same h) in
          let long : record_size ≡ n - at = omega arith in
          record {
            is = e ∙ ap (λ (l : List ℕ). some (l, n)) (sym (ap (λ r. r.0) (same h)) ∙ ap (λ (k : ℕ). take k (drop at s)) long);
            ends = sym next;
            inside = omega arith;
          }

pub clean_good : {s : List ℕ} {at n : ℕ} → some n ≡ after_of (clean_in s at) → CleanAt s at n
clean_good {s} {at} e = clean_there s at (place_good clean_in s at e).is

-- it is as long as a record
pub clean_long : {s : List ℕ} {at n : ℕ} → CleanAt s at n → record_size ≤ length (part s at n)
clean_long {s} {at} {n} c =
    let e = c.ends in
    let i = c.inside in
    let l : length (part s at n) ≡ n - at = length-take-le (n - at) (drop at s) (omega (arith, length-drop at s)) in
    omega arith
