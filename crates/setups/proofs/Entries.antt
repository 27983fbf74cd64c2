-- A store that reads, taken apart for code that walks it: where each part stands and what is read there; the entries of ten places. Assumes nothing.
use Rattle.std.specs.Prelude.{if◌then◌else◌}
use Prim.Native.Nat.{ℕ, zero, suc, ◌≤◌, ◌<◌}
use mathlib.Core.Path.{◌≡◌, refl, sym, ap, ◌∙◌, subst}
use mathlib.Core.Bool.{Bool, true, false}
use mathlib.Core.List.{List, [], ◌∷◌}
use mathlib.Core.Logic.{◌⊎◌, inl, inr}
use mathlib.Core.Option.{none, some}
use borrow.Author.Tests.{eqb-true}
use lib.Dec.{T, eqb, leb, leb→le}
use lib.ListN.{length}
use Rattle.codec.specs.Plain.{within, member}
use Rattle.codec.proofs.Tests.{within_low, within_high}
use Rattle.number.specs.Reads.{Reads, ◌>>=◌, bad, number, only}
use Rattle.machine.specs.Filter.{Slots, none_yet}
use Rattle.machine.specs.Store.{Setup, each_in, placed, slots_in, read_whole}
use Rattle.machine.specs.Channel.{filter_in, periodic_in, body_in, version_in, store_in}
use Rattle.setups.specs.Saved.{Rising, filled}
use Rattle.setups.proofs.Reading.{split, done_there, bad_there, only_there, whole_there}
use Rattle.setups.proofs.Filling.{filled_placed}

-- ---- ten places

-- the entries that were read for them, behind their count
pub record Listed {A : Type 0} (p : Reads A) (s : List ℕ) (at : ℕ) (v : Slots A) (next : ℕ) : Type 0 where
  pub count : ℕ
  pub place : ℕ
  pub entries : List (ℕ × A)
  pub counted : number s at ≡ some (count, place)
  pub few : count ≤ 10
  pub read : each_in p 0 count s place ≡ some (entries, next)
  pub rising : Rising 0 10 entries
  pub long : length entries ≡ count
  pub are : placed 1 10 entries ≡ v
  pub put : filled none_yet entries ≡ v

module _ {A : Type 0} (p : Reads A) (s : List ℕ) where
  pub each_rising : (k before at : ℕ) (es : List (ℕ × A)) (next : ℕ) → each_in p before k s at ≡ some (es, next) → Rising before 10 es × (length es ≡ k)
  unfolding each_in
  each_rising zero before at es next e =
      subst (λ (v : List (ℕ × A)). Rising before 10 v × (length v ≡ zero)) (done_there [] es s at next e).0 (tt, refl)
  each_rising (suc k) before at es next e =
      let x = split (only (within (suc before) 10) number) _ s at es next e in
      let y = split p _ s x.place es next x.rest in
      let z = split (each_in p x.what k) _ s y.place es next y.rest in
      let d = done_there ((x.what, y.what) ∷ z.what) es s z.place next z.rest in
      let o = only_there (within (suc before) 10) number x.what s at x.place x.first in
      let r = each_rising k x.what y.place z.what z.place z.first in
      let low : before < x.what = within_low (suc before) 10 x.what o.1 in
      subst (λ (v : List (ℕ × A)). Rising before 10 v × (length v ≡ suc k)) d.0 ((low, (within_high (suc before) 10 x.what o.1, r.0)), ap suc r.1)

  pub slots_listed : (at : ℕ) (v : Slots A) (next : ℕ) → slots_in p s at ≡ some (v, next) → Listed p s at v next
  unfolding slots_in
  slots_listed at v next e =
      let x = split (only (λ n. leb n 10) number) _ s at v next e in
      let y = split (each_in p 0 x.what) _ s x.place v next x.rest in
      let es : List (ℕ × A) = y.what in
      let d = done_there (placed 1 10 es) v s y.place next y.rest in
      let o = only_there (λ n. leb n 10) number x.what s at x.place x.first in
      let r = each_rising x.what 0 x.place es y.place y.first in
      record {
        count = x.what;
        place = x.place;
        entries = es;
        counted = o.0;
        few = leb→le x.what 10 o.1;
        read = y.first ∙ ap (λ (j : ℕ). some (es, j)) d.1;
        rising = r.0;
        long = r.1;
        are = d.0;
        put = filled_placed es r.0 ∙ d.0;
      }

-- ---- the body

pub record BodyParts (rates : List ℕ) (flags : ℕ) (s : List ℕ) (at : ℕ) (st : Setup) (next : ℕ) : Type 0 where
  pub filters_end : ℕ
  pub periodics_end : ℕ
  pub rate_end : ℕ
  pub loop : ℕ
  pub flags_are : st.flags ≡ flags
  pub filters : slots_in (filter_in flags) s at ≡ some (st.filters, filters_end)
  pub periodics : slots_in (periodic_in flags) s filters_end ≡ some (st.periodics, periodics_end)
  pub rate : number s periodics_end ≡ some (st.rate, rate_end)
  pub rate_taken : T (member st.rate rates)
  pub loopback : number s rate_end ≡ some (loop, next)
  pub loop_small : loop ≤ 1
  pub loop_is : eqb loop 1 ≡ st.loopback

pub body_parts : (rates : List ℕ) (flags : ℕ) (s : List ℕ) (at : ℕ) (st : Setup) (next : ℕ) → body_in rates flags s at ≡ some (st, next) → BodyParts rates flags s at st next
unfolding body_in
body_parts rates flags s at st next e =
    let x = split (slots_in (filter_in flags)) _ s at st next e in
    let y = split (slots_in (periodic_in flags)) _ s x.place st next x.rest in
    let z = split (only (λ r. member r rates) number) _ s y.place st next y.rest in
    let u = split (only (λ n. leb n 1) number) _ s z.place st next z.rest in
    let made : Setup = record { flags = flags; filters = x.what; periodics = y.what; rate = z.what; loopback = eqb u.what 1 } in
    let d = done_there made st s u.place next u.rest in
    let o = only_there (λ r. member r rates) number z.what s y.place z.place z.first in
    let q = only_there (λ n. leb n 1) number u.what s z.place u.place u.first in
    subst (λ (v : Setup). BodyParts rates flags s at v next) d.0
    (record {
      filters_end = x.place;
      periodics_end = y.place;
      rate_end = z.place;
      loop = u.what;
      flags_are = refl;
      filters = x.first;
      periodics = y.first;
      rate = o.0;
      rate_taken = o.1;
      loopback = q.0 ∙ ap (λ (j : ℕ). some (u.what, j)) d.1;
      loop_small = leb→le u.what 1 q.1;
      loop_is = refl;
    })

-- ---- the whole

-- a version 1 store, a version 2 store: where its body begins
pub record OldParts (rates s : List ℕ) (st : Setup) : Type 0 where
  pub from : ℕ
  pub version : number s 0 ≡ some (1, from)
  pub body : BodyParts rates 0 s from st (length s)

pub record NewParts (rates s : List ℕ) (st : Setup) : Type 0 where
  pub flags_at_law : ℕ
  pub from : ℕ
  pub version : number s 0 ≡ some (2, flags_at_law)
  pub flags : number s flags_at_law ≡ some (st.flags, from)
  pub body : BodyParts rates st.flags s from st (length s)

pub store_parts : (rates s : List ℕ) (st : Setup) → read_whole (store_in rates) s ≡ some st → OldParts rates s st ⊎ NewParts rates s st
unfolding store_in
store_parts rates s st e =
    let t = whole_there (number >>= version_in rates) s st e in
    let x = split number (version_in rates) s 0 st t.next t.read in
    go t.next t.ends x.what x.place x.first (eqb x.what 1) refl (eqb x.what 2) refl (unfold version_in in x.rest)
  where
    go : (next : ℕ) → next ≡ length s → (v place : ℕ) → number s 0 ≡ some (v, place) → (one : Bool) → eqb v 1 ≡ one → (two : Bool) → eqb v 2 ≡ two
        → (if one then body_in rates 0 else if two then number >>= body_in rates else bad) s place ≡ some (st, next) → OldParts rates s st ⊎ NewParts rates s st
    go next h v place q true p two r i =
        inl
        (record {
          from = place;
          version = q ∙ ap (λ (k : ℕ). some (k, place)) (eqb-true v 1 p);
          body = subst (BodyParts rates 0 s place st) h (body_parts rates 0 s place st next i);
        })
    go next h v place q false p true r i =
        let x = split number (body_in rates) s place st next i in
        let y = body_parts rates x.what s x.place st next x.rest in
        inr
        (record {
          flags_at_law = place;
          from = x.place;
          version = q ∙ ap (λ (k : ℕ). some (k, place)) (eqb-true v 2 r);
          flags = x.first ∙ ap (λ (k : ℕ). some (k, x.place)) (sym y.flags_are);
          body = subst (λ (k : ℕ). BodyParts rates k s x.place st (length s)) (sym y.flags_are) (subst (BodyParts rates x.what s x.place st) h y);
        })
    go next h v place q false p false r i = bad_there st s place next i
