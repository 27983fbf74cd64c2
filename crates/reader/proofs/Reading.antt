-- What a reader's answer says of the part that was to be read, and how one reads on behind it. Assumes nothing.
use Prim.Native.Nat.{ℕ, ◌+◌, ◌≤◌, ◌<◌}
use mathlib.Core.List.{List}
use mathlib.Core.Option as maybe
use mathlib.Core.Path.{◌≡◌, refl, sym, ap}
use native.Mathlib.Omega.{arith}
use borrow.Author.Tests.{le-leb, lt-leb}
use lib.ListN.{length, drop}
use Rattle.std.specs.Prelude.{Option, Some, None}
use Rattle.number.specs.declared.Number.{Number}
use Rattle.number.specs.Number as numbers
use Rattle.number.specs.Place.{answer, number_at}
use Rattle.number.specs.Reads.{Reads, number}
use Rattle.reader.specs.declared.Reader.{Reader}
use Rattle.reader.specs.Cursor.{read_off, read_by, ends, given, Gave}

-- ---- a number

module _ (s : List ℕ) (at : ℕ) where
  abbrev pair_at : numbers.Found → ℕ × ℕ
  pair_at f = (f.value, at + f.size)

  pub number_good : {n : Number} → Some n ≡ number_at s at → number s at ≡ maybe.some (n.value, n.next)
  unfolding number_at answer number
  number_good {n} = go (numbers.number_in (drop at s))
    where
      go : (o : maybe.Option numbers.Found) → Some n ≡ answer at o → maybe.map pair_at o ≡ maybe.some (n.value, n.next)
      go maybe.none h = cc
      go (maybe.some f) h = cc

  pub number_bad : None ≡ number_at s at → number s at ≡ maybe.none
  unfolding number_at answer number
  number_bad = go (numbers.number_in (drop at s))
    where
      go : (o : maybe.Option numbers.Found) → None ≡ answer at o → maybe.map pair_at o ≡ maybe.none
      go maybe.none h = refl
      go (maybe.some f) h = cc

  -- ---- raw bytes

  pub ends_there : (size : ℕ) → at + size ≤ length s → ends size s at ≡ maybe.some ((at, at + size), at + size)
  unfolding ends
  ends_there size h = rw (le-leb (at + size) (length s) h)

  pub ends_cut : (size : ℕ) → length s < at + size → ends size s at ≡ maybe.none
  unfolding ends
  ends_cut size h = rw (lt-leb (at + size) (length s) h)

-- ---- what a reader gave

-- a part of a list of bytes was read, and the reader is behind it
pub record Took {A : Type 0} (p : Reads A) (s : List ℕ) (at : ℕ) (a : A) (after : Reader) : Type 0 where
  pub is : p s at ≡ maybe.some (a, after.at)
  pub on : after.recording.now ≡ s

module _ {A : Type 0} (p : Reads A) (r : Reader) where
  pub read_good : {a : A} {after : Reader} → ◌≡◌ {A = Option A × Reader} (Some a, after) (read_by p r) → Took p r.recording.now r.at a after
  unfolding read_by read_off
  read_good {a} {after} = go (p r.recording.now r.at) refl
    where
      go : (o : maybe.Option (A × ℕ)) → p r.recording.now r.at ≡ o → ◌≡◌ {A = Option A × Reader} (Some a, after) (read_off r o) → Took p r.recording.now r.at a after
      go maybe.none e h =
          let n : ◌≡◌ {A = Option A} (Some a) None = ap (λ v. v.0) h in
          let z : ◌≡◌ {A = ℕ} 0 1 = cc in
          absurd (omega arith)
      go (maybe.some x) e h =
          let one : Some a ≡ Some x.0 = ap (λ v. v.0) h in
          let two : after ≡ record { recording = r.recording; at = x.1 } = ap (λ v. v.1) h in
          let is : a ≡ x.0 = cc in
          record { is = rw (is, two) e; on = rw two }

  pub read_bad : {after : Reader} → ◌≡◌ {A = Option A × Reader} (None, after) (read_by p r) → p r.recording.now r.at ≡ maybe.none
  unfolding read_by read_off
  read_bad {after} = go (p r.recording.now r.at)
    where
      go : (o : maybe.Option (A × ℕ)) → ◌≡◌ {A = Option A × Reader} (None, after) (read_off r o) → o ≡ maybe.none
      go maybe.none h = refl
      go (maybe.some x) h = let n : ◌≡◌ {A = Option A} None (Some x.0) = ap (λ v. v.0) h in cc

  -- it has its recording still
  pub read_kept : {o : Option A} {after : Reader} → (o, after) ≡ read_by p r → after.recording.now ≡ r.recording.now
  unfolding read_by read_off
  read_kept {o} {after} = go (p r.recording.now r.at)
    where
      go : (x : maybe.Option (A × ℕ)) → (o, after) ≡ read_off r x → after.recording.now ≡ r.recording.now
      go maybe.none h = ap (λ v. v.1.recording.now) h
      go (maybe.some x) h = ap (λ v. v.1.recording.now) h

-- the same of some parts at once
module _ {A : Type 0} (p : Reads A) (r : Reader) where
  pub gave_good : {a : A} {after : Reader} → Gave p r (Some a) after → Took p r.recording.now r.at a after
  unfolding given
  gave_good g = record { is = sym g.is; on = g.on }

  pub gave_bad : {after : Reader} → Gave p r None after → p r.recording.now r.at ≡ maybe.none
  unfolding given
  gave_bad g = sym g.is

-- ---- one part behind another

module _ {A B : Type 0} {p : Reads A} {s : List ℕ} {at : ℕ} {a : A} {r : Reader} (q : Reads B) (t : Took p s at a r) where
  pub then_good : {b : B} {after : Reader} → ◌≡◌ {A = Option B × Reader} (Some b, after) (read_by q r) → Took q s r.at b after
  then_good e = rw (← t.on) (read_good q r e)

  pub then_bad : {after : Reader} → ◌≡◌ {A = Option B × Reader} (None, after) (read_by q r) → q s r.at ≡ maybe.none
  then_bad e = rw (← t.on) (read_bad q r e)

  pub then_gave : {b : B} {after : Reader} → Gave q r (Some b) after → Took q s r.at b after
  then_gave g = rw (← t.on) (gave_good q r g)

  pub then_gave_bad : {after : Reader} → Gave q r None after → q s r.at ≡ maybe.none
  then_gave_bad g = rw (← t.on) (gave_bad q r g)
