-- What reads at a place of a store: a number, a filter, a periodic, the first of several entries. Assumes nothing.
use Rattle.std.specs.Prelude.{if◌then◌else◌}
use Rattle.std.specs.Prelude as std
use Rattle.std.specs.Option.{unwrap_or}
use Prim.Native.Nat.{ℕ, zero, suc, ◌+◌, ◌≤◌, ◌<◌}
use mathlib.Core.Path.{◌≡◌, refl, sym, ap, ap₂, subst, ◌∙◌}
use mathlib.Core.Bool.{Bool, true, false, not, ◌&&◌}
use mathlib.Core.Option.{Option, none, some, map}
use mathlib.Core.List.{List, [], ◌∷◌}
use native.Mathlib.Omega.{arith}
use borrow.Author.Tests.{leb-true}
use lib.Dec.{leb, eqb, eqb→eq, T}
use lib.ListN.{length, take, drop}
use Rattle.codec.specs.Plain.{within}
use Rattle.codec.proofs.Tests.{join, within_low, within_high, left, right}
use Rattle.number.specs.declared.Number.{Number}
use Rattle.number.specs.Number.{Found, number_in}
use Rattle.number.specs.Place.{answer, number_at}
use Rattle.number.specs.Reads.{Reads, number, bytes, only}
use Rattle.machine.specs.Limits.{most_places, record_size}
use Rattle.machine.specs.Message.{Rec, clean, message_code}
use Rattle.machine.specs.Filter.{Slots, Filter, free, none_yet}
use Rattle.machine.specs.Store.{is_clean, clean_in, each_in, placed, slots_in}
use Rattle.machine.specs.Channel.{filter_code, filter_of, periodic_code, blank, filter_in, periodic_in, listens}
use Rattle.machine.proofs.Tables.{failed, own_code, yes}
use Rattle.setups.specs.Saved.{Rising, filled}
use Rattle.setups.proofs.Filling.{filled_placed}
use Rattle.setups.proofs.Reading.{same, no_value, split, done_there, where_there, only_there}
use Rattle.store_filling.specs.Filling.{NumberThere, There, Gives}

-- ---- a number

module _ (s : List ℕ) (at : ℕ) where
  abbrev pair_at : Found → ℕ × ℕ
  pair_at f = (f.value, at + f.size)

  pub number_or : {o : std.Option Number} (d r : Number) → o ≡ number_at s at → r ≡ unwrap_or o d → NumberThere s at r.value r.next
  unfolding number_at answer number
  number_or d r w e v n = go (number_in (drop at s)) (e ∙ ap (λ (k : std.Option Number). unwrap_or k d) w)
    where
      go : (o : Option Found) → r ≡ unwrap_or (answer at o) d → map pair_at o ≡ some (v, n) → (r.value ≡ v) × (r.next ≡ n)
      go none h k = no_value k
      go (some f) h k = (ap (λ (x : Number). x.value) h ∙ ap (λ x. x.0) (same k), ap (λ (x : Number). x.next) h ∙ ap (λ x. x.1) (same k))

-- ---- a record

abbrev pub record_at : List ℕ → ℕ → List ℕ
record_at s at = take record_size (drop at s)

record RecordRead (s : List ℕ) (at : ℕ) (m : List ℕ) (next : ℕ) : Type 0 where
  is : m ≡ record_at s at
  ends : next ≡ at + record_size
  inside : at + record_size ≤ length s

record_read : (s : List ℕ) (at : ℕ) (m : List ℕ) (next : ℕ) → clean_in s at ≡ some (m, next) → RecordRead s at m next
unfolding clean_in bytes
record_read s at m next e = go (leb (at + record_size) (length s)) refl (only_there is_clean (bytes record_size) m s at next e).0
  where
    go : (t : Bool) → leb (at + record_size) (length s) ≡ t → if◌then◌else◌ {A = Option (List ℕ × ℕ)} t (some (record_at s at, at + record_size)) none ≡ some (m, next) → RecordRead s at m next
    go false q h = no_value h
    go true q h =
        let p = same h in
        record { is = sym (ap (λ x. x.0) p); ends = sym (ap (λ x. x.1) p); inside = leb-true (at + record_size) (length s) q }

-- ---- a filter

-- from its number v and place a on, as code lends the two records
pub record FilterRead (flags : ℕ) (s : List ℕ) (v a j k : ℕ) (f : Filter) (next : ℕ) : Type 0 where
  pub inside : a + record_size + record_size ≤ length s
  pub code : filter_code (blank flags 0) v (take j (drop a s)) (take k (drop (a + record_size) s)) ≡ 0
  pub is : filter_of v (take j (drop a s)) (take k (drop (a + record_size) s)) ≡ f
  pub ends : a + record_size + record_size ≡ next

pub filter_read : (flags : ℕ) (s : List ℕ) (at : ℕ) (f : Filter) (next : ℕ) → filter_in flags s at ≡ some (f, next) → (v a j k : ℕ) → NumberThere s at v a → j ≡ record_size → k ≡ record_size
    → FilterRead flags s v a j k f next
unfolding filter_in
filter_read flags s at f next e v a j k there ej ek =
    let x = split number _ s at f next e in
    let y = split clean_in _ s x.place f next x.rest in
    let z = split clean_in _ s y.place f next y.rest in
    let t : ℕ = x.what in
    let here = there t x.place x.first in
    let m = record_read s x.place y.what y.place y.first in
    let p = record_read s y.place z.what z.place z.first in
    let ea = here.1 in
    let me = m.ends in
    let pe = p.ends in
    let pi = p.inside in
    let middle : y.place ≡ a + record_size = omega arith in
    let mask : y.what ≡ take j (drop a s) = m.is ∙ ap₂ (λ (n i : ℕ). take n (drop i s)) (sym ej) (sym ea) in
    let pattern : z.what ≡ take k (drop (a + record_size) s) = p.is ∙ ap₂ (λ (n i : ℕ). take n (drop i s)) (sym ek) middle in
    let d = where_there (eqb (filter_code (blank flags 0) t y.what z.what) 0) (filter_of t y.what z.what) f s z.place next z.rest in
    let c : filter_code (blank flags 0) t y.what z.what ≡ 0 = eqb→eq _ 0 d.0 in
    let dn = d.1.1 in
    record {
      inside = omega arith;
      code = (λ i. filter_code (blank flags 0) (here.0 i) (sym mask i) (sym pattern i)) ∙ c;
      is = (λ i. filter_of (here.0 i) (sym mask i) (sym pattern i)) ∙ d.1.0;
      ends = omega arith;
    }

-- ---- a periodic

pub record PeriodicRead (flags : ℕ) (s : List ℕ) (at j v n : ℕ) (p : Rec × ℕ) (next : ℕ) : Type 0 where
  pub good : message_code flags (take j (drop at s)) ≡ 0
  pub speaks : T (not (listens flags))
  pub is : (clean (take j (drop at s)), v) ≡ p
  pub ends : n ≡ next

message_passed : (flags : ℕ) (m : List ℕ) (i : ℕ) → periodic_code (blank flags 0) m i ≡ 0 → message_code flags m ≡ 0
unfolding periodic_code none_yet free
message_passed flags m i e =
    let k : ℕ = message_code flags m in
    let f = failed _ (join (not (eqb k 0 && not (eqb k 0))) _ (own_code k) tt) e in
    eqb→eq k 0 (yes (eqb k 0) f.1.1.0)

pub periodic_inside : (flags : ℕ) (s : List ℕ) (at : ℕ) (p : Rec × ℕ) (next : ℕ) → periodic_in flags s at ≡ some (p, next) → at + record_size ≤ length s
unfolding periodic_in
periodic_inside flags s at p next e = let x = split clean_in _ s at p next e in (record_read s at x.what x.place x.first).inside

-- its interval v ends at n
pub periodic_read : (flags : ℕ) (s : List ℕ) (at : ℕ) (p : Rec × ℕ) (next : ℕ) → periodic_in flags s at ≡ some (p, next) → (j v n : ℕ) → NumberThere s (at + record_size) v n → j ≡ record_size
    → PeriodicRead flags s at j v n p next
unfolding periodic_in
periodic_read flags s at p next e j v n there ej =
    let x = split clean_in _ s at p next e in
    let y = split number _ s x.place p next x.rest in
    let i : ℕ = y.what in
    let m = record_read s at x.what x.place x.first in
    let here = there i y.place (ap (number s) (sym m.ends) ∙ y.first) in
    let message : x.what ≡ take j (drop at s) = m.is ∙ ap (λ (l : ℕ). take l (drop at s)) (sym ej) in
    let d = where_there (not (listens flags) && eqb (periodic_code (blank flags 0) x.what i) 0) (clean x.what, i) p s y.place next y.rest in
    let k : periodic_code (blank flags 0) x.what i ≡ 0 = eqb→eq _ 0 (right (not (listens flags)) _ d.0) in
    record {
      speaks = left (not (listens flags)) _ d.0;
      good = message_passed flags (take j (drop at s)) i (ap (λ (u : List ℕ). periodic_code (blank flags 0) u i) (sym message) ∙ k);
      is = (λ q. (clean (sym message q), here.0 q)) ∙ d.1.0;
      ends = here.1 ∙ d.1.1;
    }

-- ---- the first of several

pub record First {A : Type 0} (p : Reads A) (before n : ℕ) (s : List ℕ) (at : ℕ) (es : List (ℕ × A)) (end : ℕ) : Type 0 where
  pub number_of : ℕ
  pub place : ℕ
  pub what : A
  pub after : ℕ
  pub others : List (ℕ × A)
  pub begins : number s at ≡ some (number_of, place)
  pub low : before < number_of
  pub high : number_of ≤ most_places
  pub entry : p s place ≡ some (what, after)
  pub rest : each_in p number_of n s after ≡ some (others, end)
  pub is : (number_of, what) ∷ others ≡ es

pub first : {A : Type 0} (p : Reads A) (before n : ℕ) (s : List ℕ) (at : ℕ) (es : List (ℕ × A)) (end : ℕ) → each_in p before (suc n) s at ≡ some (es, end) → First p before n s at es end
unfolding each_in
first p before n s at es end e =
    let x = split _ _ s at es end e in
    let y = split p _ s x.place es end x.rest in
    let z = split (each_in p x.what n) _ s y.place es end y.rest in
    let w = done_there ((x.what, y.what) ∷ z.what) es s z.place end z.rest in
    let t = only_there (within (suc before) most_places) number x.what s at x.place x.first in
    record {
      number_of = x.what;
      place = x.place;
      what = y.what;
      after = y.place;
      others = z.what;
      begins = t.0;
      low = within_low (suc before) most_places x.what t.1;
      high = within_high (suc before) most_places x.what t.1;
      entry = y.first;
      rest = z.first ∙ ap (λ (n' : ℕ). some (z.what, n')) w.1;
      is = w.0;
    }

-- the numbers of n entries rise
pub each_rising : {A : Type 0} (p : Reads A) (n before : ℕ) (s : List ℕ) (at : ℕ) (es : List (ℕ × A)) (end : ℕ) → each_in p before n s at ≡ some (es, end) → Rising before most_places es
unfolding each_in
each_rising {A} p zero before s at es end e = subst (λ (v : List (ℕ × A)). Rising before most_places v) (done_there [] es s at end e).0 tt
each_rising {A} p (suc n) before s at es end e =
    let f = first p before n s at es end e in
    subst (λ (v : List (ℕ × A)). Rising before most_places v) f.is (f.low, (f.high, each_rising p n f.number_of s f.after f.others end f.rest))

-- ---- how many, then they

pub record SlotsRead {A : Type 0} (p : Reads A) (s : List ℕ) (at : ℕ) (v : Slots A) (next : ℕ) : Type 0 where
  pub count : ℕ
  pub place : ℕ
  pub es : List (ℕ × A)
  pub begins : number s at ≡ some (count, place)
  pub each : each_in p 0 count s place ≡ some (es, next)
  pub is : filled none_yet es ≡ v

pub slots_read : {A : Type 0} (p : Reads A) (s : List ℕ) (at : ℕ) (v : Slots A) (next : ℕ) → slots_in p s at ≡ some (v, next) → SlotsRead p s at v next
unfolding slots_in
slots_read p s at v next e =
    let x = split (only (λ n. leb n most_places) number) _ s at v next e in
    let y = split (each_in p 0 x.what) _ s x.place v next x.rest in
    let d = done_there (placed 1 most_places y.what) v s y.place next y.rest in
    record {
      count = x.what;
      place = x.place;
      es = y.what;
      begins = (only_there (λ n. leb n most_places) number x.what s at x.place x.first).0;
      each = y.first ∙ ap (λ (n : ℕ). some (y.what, n)) d.1;
      is = filled_placed y.what (each_rising p x.what 0 s x.place y.what y.place y.first) ∙ d.0;
    }

-- the entries, from their count on
module _ {A : Type 0} (p : ℕ → Reads A) (s : List ℕ) (at v place : ℕ) (there : NumberThere s at v place) where
  entries : (flags : ℕ) (a : Slots A) (next : ℕ) (q : SlotsRead (p flags) s at a next) → each_in (p flags) 0 v s place ≡ some (q.es, next)
  entries flags a next q = let h = there q.count q.place q.begins in ap₂ (λ (n i : ℕ). each_in (p flags) 0 n s i) h.0 h.1 ∙ q.each

  pub list_there : There (λ k. slots_in (p k)) s at → There (λ k. each_in (p k) 0 v) s place
  list_there t =
      let q = slots_read (p t.flags) s at t.what t.next t.read in
      record { flags = t.flags; what = q.es; next = t.next; read = entries t.flags t.what t.next q }

  pub slots_given : (r : ℕ) (m : List ℕ) (made : ℕ → Slots A → List ℕ) → Gives (λ k. each_in (p k) 0 v) s place r m (λ k es. made k (filled none_yet es)) → Gives (λ k. slots_in (p k)) s at r m made
  slots_given r m made g flags a next e =
      let q = slots_read (p flags) s at a next e in
      let o = g flags q.es next (entries flags a next q) in
      (o.0, o.1 ∙ ap (made flags) q.is)
