-- What a reader's answers say of an n and of raw bytes in an event. Assumes nothing.
use Rattle.std.specs.Prelude.{if◌then◌else◌}
use Prim.Native.Nat.{ℕ, ◌+◌, ◌≤◌, ◌<◌}
use mathlib.Core.Bool.{Bool, true, false}
use mathlib.Core.List.{List, [], ◌∷◌}
use mathlib.Core.Option.{Option, none, some}
use mathlib.Core.Path.{◌≡◌, refl, ap}
use native.Mathlib.Omega.{arith}
use borrow.Author.Tests.{leb-true, leb-false}
use lib.Dec.{leb}
use lib.ListN.{length}
use Rattle.events.specs.Events.{done, bad, number, bytes, at_most64}
use Rattle.events.specs.Found.{between}
use Rattle.events.specs.Values.{raw}
use Rattle.events.proofs.Reading.{same, Split, split, bytes_there, bytes_cut, raw_there, raw_cut}
use Rattle.reader.specs.declared.Reader.{Reader}
use Rattle.reader.specs.Cursor.{ends}
use Rattle.reader.proofs.Reading.{Took}

-- an n that was read is at most 64
pub at_most_few : (s : List ℕ) (at n next : ℕ) → at_most64 s at ≡ some (n, next) → n ≤ 64
unfolding at_most64 done bad
at_most_few s at n next e = passed (split number (λ v. if leb v 64 then done v else bad) s at n next e)
  where
    by : (v place : ℕ) (b : Bool) → leb v 64 ≡ b → (if b then done v else bad) s place ≡ some (n, next) → n ≤ 64
    by v place true q h = let is : v ≡ n = ap (λ (x : ℕ × ℕ). x.0) (same h) in omega (arith, leb-true v 64 q)
    by v place false q h = let z : ◌≡◌ {A = ℕ} 0 1 = cc in absurd (omega arith)

    passed : Split number (λ v. if leb v 64 then done v else bad) s at n next → n ≤ 64
    passed x = by x.what x.place (leb x.what 64) refl x.rest

-- raw bytes that a reader gave the places of: what they are, and where they start and end
pub record Stand (s : List ℕ) (at size from end : ℕ) (after : Reader) : Type 0 where
  pub bytes_are : bytes size s at ≡ some (between s from end, after.at)
  pub raw_is : raw size s at ≡ some (from ∷ end ∷ [], after.at)
  pub start : from ≡ at
  pub long : end ≡ at + size
  pub stop : after.at ≡ end
  pub inside : end ≤ length s

module _ (s : List ℕ) (at size : ℕ) where
  pub stand : {p : ℕ × ℕ} {after : Reader} → Took (ends size) s at p after → Stand s at size p.0 p.1 after
  unfolding ends
  stand {p} {after} t = go (leb (at + size) (length s)) refl t.is
    where
      go : (b : Bool) → leb (at + size) (length s) ≡ b → if◌then◌else◌ {A = Option ((ℕ × ℕ) × ℕ)} b (some ((at, at + size), at + size)) none ≡ some (p, after.at) → Stand s at size p.0 p.1 after
      go true q h =
          let from : at ≡ p.0 = ap (λ (x : (ℕ × ℕ) × ℕ). x.0.0) (same h) in
          let end : at + size ≡ p.1 = ap (λ (x : (ℕ × ℕ) × ℕ). x.0.1) (same h) in
          let next : at + size ≡ after.at = ap (λ (x : (ℕ × ℕ) × ℕ). x.1) (same h) in
          let room : at + size ≤ length s = leb-true (at + size) (length s) q in
          rw (← from, ← end, ← next) (record {
            bytes_are = bytes_there s at size (at + size) refl room;
            raw_is = raw_there s at size (at + size) refl room;
            start = refl;
            long = refl;
            stop = refl;
            inside = room;
          })
      go false q h = let z : ◌≡◌ {A = ℕ} 0 1 = cc in absurd (omega arith)

  -- or there are none
  pub record Short : Type 0 where
    pub no_bytes : bytes size s at ≡ none
    pub no_raw : raw size s at ≡ none

  pub short : ends size s at ≡ none → Short
  unfolding ends
  short = go (leb (at + size) (length s)) refl
    where
      go : (b : Bool) → leb (at + size) (length s) ≡ b → if◌then◌else◌ {A = Option ((ℕ × ℕ) × ℕ)} b (some ((at, at + size), at + size)) none ≡ none → Short
      go true q h = let z : ◌≡◌ {A = ℕ} 0 1 = cc in absurd (omega arith)
      go false q h =
          let cut : length s < at + size = omega (arith, leb-false (at + size) (length s) q) in
          record { no_bytes = bytes_cut s at size cut; no_raw = raw_cut s at size cut }
