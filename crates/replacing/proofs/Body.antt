-- The body of a store part by part, and where it stands. Assumes nothing.
use Rattle.std.specs.Prelude.{if◌then◌else◌}
use Prim.Native.Nat.{ℕ, ◌≤◌}
use mathlib.Core.Path.{◌≡◌, sym, ap, ◌∙◌}
use mathlib.Core.Bool.{Bool, true, false}
use mathlib.Core.Option.{some}
use mathlib.Core.List.{List}
use borrow.Author.Tests.{eq-eqb, ne_eqb}
use lib.Dec.{eqb, leb, leb→le}
use Rattle.codec.specs.Plain.{member}
use Rattle.number.specs.Reads.{Reads, ◌>>=◌, number, only, bad}
use Rattle.machine.specs.Store.{Setup, slots_in}
use Rattle.machine.specs.Channel.{filter_in, periodic_in, body_in, version_in, store_in}
use Rattle.setups.proofs.Reading.{split, done_there, bad_there, only_there}
use Rattle.store_filling.specs.Filling.{NumberThere}
use Rattle.replacing.specs.Body.{BodyThere}

pub record BodyRead (flags : ℕ) (s : List ℕ) (at : ℕ) (t : Setup) (n : ℕ) : Type 0 where
  pub filters_end : ℕ
  pub filters : slots_in (filter_in flags) s at ≡ some (t.filters, filters_end)
  pub periodics_end : ℕ
  pub periodics : slots_in (periodic_in flags) s filters_end ≡ some (t.periodics, periodics_end)
  pub rate_end : ℕ
  pub rate : number s periodics_end ≡ some (t.rate, rate_end)
  pub loop : ℕ
  pub loopback : number s rate_end ≡ some (loop, n)
  pub small : loop ≤ 1
  pub mark : eqb loop 1 ≡ t.loopback
  pub flags_are : flags ≡ t.flags

pub body_read : (rates : List ℕ) (flags : ℕ) (s : List ℕ) (at : ℕ) (t : Setup) (n : ℕ) → body_in rates flags s at ≡ some (t, n) → BodyRead flags s at t n
unfolding body_in
body_read rates flags s at t n e =
    let x = split (slots_in (filter_in flags)) _ s at t n e in
    let y = split (slots_in (periodic_in flags)) _ s x.place t n x.rest in
    let z = split (only (λ r. member r rates) number) _ s y.place t n y.rest in
    let w = split (only (λ k. leb k 1) number) _ s z.place t n z.rest in
    let d = done_there _ t s w.place n w.rest in
    let r = only_there (λ r. member r rates) number z.what s y.place z.place z.first in
    let l = only_there (λ k. leb k 1) number w.what s z.place w.place w.first in
    record {
      filters_end = x.place;
      filters = x.first ∙ ap (λ (u : Setup). some (u.filters, x.place)) d.0;
      periodics_end = y.place;
      periodics = y.first ∙ ap (λ (u : Setup). some (u.periodics, y.place)) d.0;
      rate_end = z.place;
      rate = r.0 ∙ ap (λ (u : Setup). some (u.rate, z.place)) d.0;
      loop = w.what;
      loopback = l.0 ∙ ap (λ (k : ℕ). some (w.what, k)) d.1;
      small = leb→le w.what 1 l.1;
      mark = ap (λ (u : Setup). u.loopback) d.0;
      flags_are = ap (λ (u : Setup). u.flags) d.0;
    }

-- the body of its own flags
own_flags : (rates : List ℕ) (flags : ℕ) (s : List ℕ) (at r : ℕ) (t : Setup) (n : ℕ) → r ≡ at → body_in rates flags s at ≡ some (t, n) → body_in rates t.flags s r ≡ some (t, n)
own_flags rates flags s at r t n er e =
    ap (λ (k : ℕ). body_in rates k s r) (sym (body_read rates flags s at t n e).flags_are) ∙ ap (body_in rates flags s) er ∙ e

module _ (s : List ℕ) (v place : ℕ) (there : NumberThere s 0 v place) where
  pub body_old : v ≡ 1 → BodyThere s place
  unfolding store_in version_in
  body_old h rates t n e =
      let x = split number (version_in rates) s 0 t n e in
      let k = there x.what x.place x.first in
      let old : body_in rates 0 s x.place ≡ some (t, n) =
      sym (ap (λ (b : Bool). (if b then body_in rates 0 else if eqb x.what 2 then number >>= body_in rates else bad) s x.place) (eq-eqb x.what 1 (sym k.0 ∙ h))) ∙ x.rest in
      own_flags rates 0 s x.place place t n k.1 old

  pub body_new : (v ≡ 1 → ⊥) → (w r : ℕ) → NumberThere s place w r → BodyThere s r
  unfolding store_in version_in
  body_new h w r next rates t n e =
      let x = split number (version_in rates) s 0 t n e in
      let k = there x.what x.place x.first in
      let rest : (if eqb x.what 2 then number >>= body_in rates else bad) s x.place ≡ some (t, n) =
      sym (ap (λ (b : Bool). (if b then body_in rates 0 else if eqb x.what 2 then number >>= body_in rates else bad) s x.place) (ne_eqb x.what 1 (λ z. h (k.0 ∙ z)))) ∙ x.rest in
      go x.place k.1 (eqb x.what 2) rest
    where
      go : (a : ℕ) → place ≡ a → (b : Bool) → if◌then◌else◌ {A = Reads Setup} b (number >>= body_in rates) bad s a ≡ some (t, n) → body_in rates t.flags s r ≡ some (t, n)
      go a ea false g = bad_there t s a n g
      go a ea true g =
          let y = split number (body_in rates) s a t n g in
          own_flags rates y.what s y.place r t n (next y.what y.place (ap (number s) ea ∙ y.first)).1 y.rest
