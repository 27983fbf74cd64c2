-- Entries of a store, one after the other: what is left to read. Assumes nothing.
use Prim.Native.Nat.{ℕ, zero, suc, ◌+◌, ◌-◌, ◌≤◌, ◌<◌}
use mathlib.Core.Path.{◌≡◌, refl, sym, ap, ◌∙◌}
use mathlib.Core.Bool.{Bool, ◌&&◌}
use mathlib.Core.List.{List, ◌∷◌}
use mathlib.Core.Option.{Option, none, some, map, bind}
use native.Mathlib.Omega.{arith}
use borrow.Author.Tests.{le-leb}
use lib.Dec.{leb, leb→le}
use lib.ListN.{length}
use Rattle.codec.specs.Plain.{within}
use Rattle.codec.proofs.Tests.{within_high}
use Rattle.number.specs.Reads.{Reads, ◌>>=◌, done, number, only}
use Rattle.machine.specs.Limits.{most_places}
use Rattle.machine.specs.Store.{each_in, slots_in, placed}
use Rattle.machine.specs.Filter.{Slots}
use Rattle.setups.proofs.Reading.{no_value, same as same_value, split, done_there, only_there}
use Rattle.store_records.specs.Places.{after_of}
use Rattle.store_records.proofs.Parts.{number_ends}
use Rattle.store_check.specs.Walk.{ending, Entries}

-- ---- numbers within limits

-- from 0 on: at most so much
pub from_0 : (most : ℕ) (s : List ℕ) (at : ℕ) → only (within 0 most) number s at ≡ only (λ n. leb n most) number s at
unfolding within
from_0 most s at = ap (λ (t : ℕ → Bool). only t number s at) (λ i n. below n i)
  where
    below : (n : ℕ) → within 0 most n ≡ leb n most
    below n = ap (λ (b : Bool). b && leb n most) (le-leb 0 n (omega arith))

-- ---- what is left

-- what is done with what was read leaves the place
pub after_done : {A B : Type 0} (q : Reads A) (f : A → B) (s : List ℕ) (at : ℕ) → after_of ((q >>= λ a. done (f a)) s at) ≡ after_of (q s at)
unfolding ◌>>=◌ bind done after_of
after_done {A} {B} q f s at = go (q s at)
  where
    go : (o : Option (A × ℕ)) → after_of (bind o (λ r. done (f r.0) s r.1)) ≡ after_of o
    go none = refl
    go (some r) = refl

-- the place after all of them is that after those left, which are read from here
pub record Left {A : Type 0} (p : Reads A) (s : List ℕ) (at before left place : ℕ) : Type 0 where
  pub is : after_of (slots_in p s at) ≡ after_of (each_in p before left s place)

module _ {A : Type 0} (p : Reads A) (s : List ℕ) (at : ℕ) where
  pub no_count : only (within 0 most_places) number s at ≡ none → none ≡ after_of (slots_in p s at)
  unfolding slots_in ◌>>=◌ bind after_of
  no_count e = rw (sym (from_0 most_places s at) ∙ e)

  pub all_left : {n first left : ℕ} → left ≡ n → only (within 0 most_places) number s at ≡ some (n, first) → Left p s at 0 left first
  unfolding slots_in ◌>>=◌ bind
  all_left {n} {first} {left} z e =
      record {
        is = rw (sym (from_0 most_places s at) ∙ e) (after_done (each_in p 0 n) (placed 1 most_places) s first) ∙ ap (λ (k : ℕ). after_of (each_in p 0 k s first)) (sym z);
      }

  module _ {before left place : ℕ} (l : Left p s at before left place) where
    -- none is
    pub none_left : left ≤ 0 → some place ≡ after_of (slots_in p s at)
    unfolding each_in done after_of
    none_left h = let z : left ≡ 0 = omega arith in sym (l.is ∙ ap (λ (n : ℕ). after_of (each_in p before n s place)) z)

    module _ (h : 0 < left) where
      turn : after_of (slots_in p s at) ≡ after_of ((only (within (before + 1) most_places) number >>= λ k. p >>= λ a. each_in p k (left - 1) >>= λ es. done ((k, a) ∷ es)) s place)
      unfolding each_in
      turn =
          let more : left ≡ suc (left - 1) = omega arith in
          let above : suc before ≡ before + 1 = omega arith in
          l.is ∙ ap (λ (n : ℕ). after_of (each_in p before n s place)) more
          ∙ ap (λ (b : ℕ). after_of ((only (within b most_places) number >>= λ k. p >>= λ a. each_in p k (left - 1) >>= λ es. done ((k, a) ∷ es)) s place)) above

      pub no_number : only (within (before + 1) most_places) number s place ≡ none → none ≡ after_of (slots_in p s at)
      unfolding ◌>>=◌ bind after_of
      no_number e = sym (turn ∙ rw e)

      module _ {k entry : ℕ} (e : only (within (before + 1) most_places) number s place ≡ some (k, entry)) where
        pub no_entry : p s entry ≡ none → none ≡ after_of (slots_in p s at)
        unfolding ◌>>=◌ bind after_of
        no_entry f = sym (turn ∙ rw (e, f))

        -- one less
        pub one_less : {a : A} {next rest : ℕ} → rest ≡ left - 1 → p s entry ≡ some (a, next) → Left p s at k rest next
        unfolding ◌>>=◌ bind
        one_less {a} {next} {rest} z f =
            record {
              is = turn ∙ rw (e, f) (after_done (each_in p k (left - 1)) (λ es. (k, a) ∷ es) s next) ∙ ap (λ (n : ℕ). after_of (each_in p k n s next)) (sym z);
            }

-- the number of an entry ends inside the store
pub entry_inside : (s : List ℕ) (least place : ℕ) {k entry : ℕ} → only (within least most_places) number s place ≡ some (k, entry) → entry ≤ length s
entry_inside s least place {k} {entry} e = (number_ends s place (only_there (within least most_places) number k s place entry e).0).inside

-- the number of an entry isn't above the highest
pub low_number : (s : List ℕ) (least place : ℕ) {k entry : ℕ} → only (within least most_places) number s place ≡ some (k, entry) → k ≤ most_places
low_number s least place {k} {entry} e = within_high least most_places k (only_there (within least most_places) number k s place entry e).1

-- ---- what is read matters only by where it ends

module _ {A B : Type 0} (p : Reads A) (q : Reads B) (s : List ℕ) where
  entry_same : (n k : ℕ) → ((at : ℕ) → after_of (each_in p k n s at) ≡ after_of (each_in q k n s at)) → (a : Option (A × ℕ)) (b : Option (B × ℕ)) → after_of a ≡ after_of b
      → after_of (bind a (λ r. (each_in p k n >>= λ es. done ((k, r.0) ∷ es)) s r.1)) ≡ after_of (bind b (λ r. (each_in q k n >>= λ es. done ((k, r.0) ∷ es)) s r.1))
  unfolding bind after_of
  entry_same n k again none none e = refl
  entry_same n k again none (some b) e = no_value e
  entry_same n k again (some a) none e = no_value (sym e)
  entry_same n k again (some a) (some b) e =
      after_done (each_in p k n) (λ es. (k, a.0) ∷ es) s a.1
      ∙ again a.1 ∙ ap (λ (m : ℕ). after_of (each_in q k n s m)) (same_value e)
      ∙ sym (after_done (each_in q k n) (λ es. (k, b.0) ∷ es) s b.1)

  module _ (same : (at : ℕ) → after_of (p s at) ≡ after_of (q s at)) where
    number_same : (n : ℕ) → ((k at : ℕ) → after_of (each_in p k n s at) ≡ after_of (each_in q k n s at)) → (o : Option (ℕ × ℕ))
        → after_of (bind o (λ r. (p >>= λ a. each_in p r.0 n >>= λ es. done ((r.0, a) ∷ es)) s r.1)) ≡ after_of (bind o (λ r. (q >>= λ a. each_in q r.0 n >>= λ es. done ((r.0, a) ∷ es)) s r.1))
    unfolding ◌>>=◌ bind after_of
    number_same n again none = refl
    number_same n again (some r) = entry_same n r.0 (again r.0) (p s r.1) (q s r.1) (same r.1)

    each_same : (n before at : ℕ) → after_of (each_in p before n s at) ≡ after_of (each_in q before n s at)
    unfolding each_in ◌>>=◌ done after_of
    each_same zero before at = refl
    each_same (suc n) before at = number_same n (each_same n) (only (within (suc before) most_places) number s at)

    pub slots_same : (at : ℕ) → after_of (slots_in p s at) ≡ after_of (slots_in q s at)
    unfolding slots_in ◌>>=◌ bind after_of
    slots_same at = go (only (λ n. leb n most_places) number s at)
      where
        go : (o : Option (ℕ × ℕ)) → after_of (bind o (λ r. (each_in p 0 r.0 >>= λ es. done (placed 1 most_places es)) s r.1)) ≡ after_of (bind o (λ r. (each_in q 0 r.0 >>= λ es. done (placed 1 most_places es)) s r.1))
        go none = refl
        go (some r) = after_done (each_in p 0 r.0) (placed 1 most_places) s r.1 ∙ each_same r.0 0 r.1 ∙ sym (after_done (each_in q 0 r.0) (placed 1 most_places) s r.1)

module _ (ends : ℕ → Option ℕ) (s : List ℕ) {at : ℕ} where
  pub ending_bad : none ≡ ends at → ending ends s at ≡ none
  unfolding ending
  ending_bad e = rw (sym e)

  pub ending_good : {n : ℕ} → some n ≡ ends at → ending ends s at ≡ some (n, n)
  unfolding ending
  ending_good e = rw (sym e)

-- all that is known of it is where it ends
pub ending_of : {A : Type 0} (p : Reads A) (s : List ℕ) (at : ℕ) → after_of (slots_in (ending (λ k. after_of (p s k))) s at) ≡ after_of (slots_in p s at)
unfolding ending after_of
ending_of p s = slots_same (ending (λ k. after_of (p s k))) p s (λ at. go (p s at))
  where
    go : {A : Type 0} (o : Option (A × ℕ)) → after_of (map (λ n. (n, n)) (after_of o)) ≡ after_of o
    go none = refl
    go (some r) = refl

-- ---- read, so they stand there

pub record SlotsAt {A : Type 0} (p : Reads A) (s : List ℕ) (at next : ℕ) (slots : Slots A) : Type 0 where
  pub there : Entries p s at next
  pub are : slots ≡ placed 1 most_places there.entries

pub slots_at : {A : Type 0} (p : Reads A) (s : List ℕ) (at next : ℕ) (slots : Slots A) → slots_in p s at ≡ some (slots, next) → SlotsAt p s at next slots
unfolding slots_in
slots_at {A} p s at next slots e =
    let x = split (only (λ n. leb n most_places) number) _ s at slots next e in
    let y = split (each_in p 0 x.what) _ s x.place slots next x.rest in
    let n = only_there (λ n. leb n most_places) number x.what s at x.place x.first in
    let d = done_there (placed 1 most_places y.what) slots s y.place next y.rest in
    record {
      there =
          record {
            count = x.what;
            first = x.place;
            entries = y.what;
            counted = n.0;
            few = leb→le x.what most_places n.1;
            each = y.first ∙ ap (λ (k : ℕ). some (y.what, k)) d.1;
          };
      are = sym d.0;
    }
