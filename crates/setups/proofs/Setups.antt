-- Places, the body and the whole of a store, there and back. Assumes nothing.
use Rattle.std.specs.Prelude.{if◌then◌else◌}
use Prim.Native.Nat.{ℕ, zero, suc, ◌+◌, ◌-◌, ◌≤◌, ◌<◌}
use mathlib.Core.Path.{◌≡◌, refl, sym, ap, ◌∙◌, subst}
use mathlib.Core.Bool.{Bool, true, false}
use mathlib.Core.List.{List, [], ◌∷◌, ◌++◌, append-nil}
use mathlib.Core.Logic.{◌⊎◌, inl, inr}
use mathlib.Core.Option.{none, some, bind}
use native.Mathlib.Omega.{arith}
use borrow.Author.Tests.{eqb-true, ne_eqb}
use lib.Dec.{T, eqb, leb, leb→le, le→leb}
use lib.ListN.{length, drop, drop_of_length-le}
use Rattle.codec.specs.Plain.{within, member}
use Rattle.codec.proofs.Tests.{within_low, within_high, between, true_T}
use Rattle.number.specs.Number.{largest, number_in, front, joined, highest, shortest, bytes_of, groups}
use Rattle.number.specs.Number as numbers
use Rattle.number.specs.Laws.{Bytes}
use Rattle.number.specs.Reads.{Reads, ◌>>=◌, bad, number, only, where_true}
use Rattle.machine.specs.Store.{nothing_after, read_whole, Setup, numbered, each_bytes, slots_bytes, filter_bytes, periodic_bytes, body_bytes, old_bytes, store_bytes, each_in, placed, slots_in}
use Rattle.machine.specs.Filter.{Slots}
use Rattle.machine.specs.Channel.{filter_in, periodic_in, body_in, version_in, store_in}
use Rattle.setups.specs.Good.{Holds, Every, GoodFilter, GoodPeriodic, GoodSetup}
use Rattle.setups.specs.Saved.{Exact, Rising, old_in}
use Rattle.setups.proofs.Reading.{Back, done_is, bad_there, then_none, only_none, whole_none, then_back, last_back, only_back, done_back, number_back, whole_back, split, Stands, chain, done_there, only_there, number_there, whole_there}
use Rattle.setups.proofs.Places.{numbered_rising, placed_numbered, numbered_placed, placed_long, numbered_each, placed_each}
use Rattle.setups.proofs.Parts.{Here, filter_back_law, filter_there, periodic_back_law, periodic_there}

-- ---- places

module _ {A : Type 0} (p : Reads A) (w : A → List ℕ) (P : A → Type 0) where
  module _ (back : (a : A) → P a → Back p a (w a)) where
    each_back : (before : ℕ) (es : List (ℕ × A)) → Rising before 10 es → Every (λ e. P e.1) es → Back (each_in p before (length es)) es (each_bytes w es)
    unfolding each_in each_bytes
    each_back before [] r h = done_back []
    each_back before (e ∷ es) r h =
        let low = r.0 in
        let high = r.1.0 in
        then_back _ e.0 (e ∷ es) (bytes_of e.0) (w e.1 ++ each_bytes w es)
        (only_back (within (suc before) 10) e.0 (bytes_of e.0) (number_back e.0 (omega arith)) (true_T _ (between (suc before) 10 e.0 low high)))
        (then_back _ e.1 (e ∷ es) (w e.1) (each_bytes w es) (back e.1 h.0)
        (last_back _ es (e ∷ es) (each_bytes w es) (each_back e.0 es r.1.1 h.1) (done_is (e ∷ es) (e ∷ es) refl)))

    numbered_few : (k : ℕ) (s : Slots A) → length (numbered k s) ≤ length s
    unfolding numbered
    numbered_few k [] = omega arith
    numbered_few k (none ∷ s) = let i = numbered_few (suc k) s in omega arith
    numbered_few k (some a ∷ s) = let i = numbered_few (suc k) s in omega arith

    pub slots_back : (s : Slots A) → length s ≡ 10 → Every (Holds P) s → Back (slots_in p) s (slots_bytes w s)
    unfolding slots_in slots_bytes
    slots_back s l h =
        let es : List (ℕ × A) = numbered 1 s in
        let few = numbered_few 1 s in
        let is : placed 1 10 es ≡ s = ap (λ (n : ℕ). placed 1 n es) (sym l) ∙ placed_numbered 0 s in
        then_back _ (length es) s (bytes_of (length es)) (each_bytes w es)
        (only_back (λ n. leb n 10) (length es) (bytes_of (length es)) (number_back (length es) (omega arith)) (le→leb (length es) 10 (omega arith)))
        (last_back _ es s (each_bytes w es) (each_back 0 es (numbered_rising 0 10 s (omega arith)) (numbered_each P 1 s h))
        (done_is (placed 1 10 es) s is))

  module _ (s : List ℕ) (b : Bytes s) (there : (at : ℕ) (a : A) (n : ℕ) → p s at ≡ some (a, n) → Here w P s at a n) where
    record Entries (before k at : ℕ) (es : List (ℕ × A)) (next : ℕ) : Type 0 where
      stands : Stands s at (each_bytes w es) next
      rising : Rising before 10 es
      each : Every (λ e. P e.1) es
      count : length es ≡ k

    each_there : (k before at : ℕ) (es : List (ℕ × A)) (next : ℕ) → each_in p before k s at ≡ some (es, next) → Entries before k at es next
    unfolding each_in each_bytes
    each_there zero before at es next e =
        let d = done_there [] es s at next e in
        subst (λ (v : List (ℕ × A)). Entries before zero at v next) d.0
        (subst (λ (n : ℕ). Entries before zero at [] n) d.1 (record { stands = refl; rising = tt; each = tt; count = refl }))
    each_there (suc k) before at es next e =
        let x = split (only (within (suc before) 10) number) _ s at es next e in
        let y = split p _ s x.place es next x.rest in
        let z = split (each_in p x.what k) _ s y.place es next y.rest in
        let d = done_there ((x.what, y.what) ∷ z.what) es s z.place next z.rest in
        let o = only_there (within (suc before) 10) number x.what s at x.place x.first in
        let n = number_there s at x.what x.place b o.0 in
        let a = there x.place y.what y.place y.first in
        let r = each_there k x.what y.place z.what z.place z.first in
        let low : before < x.what = within_low (suc before) 10 x.what o.1 in
        let high : x.what ≤ 10 = within_high (suc before) 10 x.what o.1 in
        subst (λ (v : List (ℕ × A)). Entries before (suc k) at v next) d.0
        (subst (λ (j : ℕ). Entries before (suc k) at ((x.what, y.what) ∷ z.what) j) d.1
        (record {
          stands = chain s at x.place z.place (bytes_of x.what) (w y.what ++ each_bytes w z.what) n.0 (chain s x.place y.place z.place (w y.what) (each_bytes w z.what) a.stands r.stands);
          rising = (low, (high, r.rising));
          each = (a.good, r.each);
          count = ap suc r.count;
        }))

    pub slots_there : (at : ℕ) (v : Slots A) (next : ℕ) → slots_in p s at ≡ some (v, next) → Here (slots_bytes w) (λ u. (length u ≡ 10) × Every (Holds P) u) s at v next
    unfolding slots_in slots_bytes
    slots_there at v next e =
        let x = split (only (λ n. leb n 10) number) _ s at v next e in
        let y = split (each_in p 0 x.what) _ s x.place v next x.rest in
        let es : List (ℕ × A) = y.what in
        let d = done_there (placed 1 10 es) v s y.place next y.rest in
        let o = only_there (λ n. leb n 10) number x.what s at x.place x.first in
        let n = number_there s at x.what x.place b o.0 in
        let r = each_there x.what 0 x.place es y.place y.first in
        let is : numbered 1 (placed 1 10 es) ≡ es = numbered_placed 0 10 10 es (omega arith) r.rising in
        let front : Stands s at (bytes_of (length es)) x.place = subst (λ (j : ℕ). Stands s at (bytes_of j) x.place) (sym r.count) n.0 in
        let stands : Stands s at (slots_bytes w (placed 1 10 es)) y.place =
        subst (λ (fs : List (ℕ × A)). Stands s at (bytes_of (length fs) ++ each_bytes w fs) y.place) (sym is)
        (chain s at x.place y.place (bytes_of (length es)) (each_bytes w es) front r.stands) in
        subst (λ (u : Slots A). Here (slots_bytes w) (λ u. (length u ≡ 10) × Every (Holds P) u) s at u next) d.0
        (subst (λ (j : ℕ). Here (slots_bytes w) (λ u. (length u ≡ 10) × Every (Holds P) u) s at (placed 1 10 es) j) d.1
        (record { stands = stands; good = (placed_long 1 10 es, placed_each P 1 10 es r.each) }))

-- ---- the body

loop_small : (l : Bool) → T (leb (if l then 1 else 0) 1)
loop_small true = tt
loop_small false = tt

loop_number : (l : Bool) → (if l then 1 else 0) ≤ largest
loop_number true = omega arith
loop_number false = omega arith

loop_back : (l : Bool) → eqb (if l then 1 else 0) 1 ≡ l
loop_back true = refl
loop_back false = refl

loop_there : (n : ℕ) → n ≤ 1 → (if eqb n 1 then 1 else 0) ≡ n
loop_there zero h = refl
loop_there (suc zero) h = refl
loop_there (suc (suc n)) h = absurd (omega arith)

module _ (rates : List ℕ) where
  pub body_back : (st : Setup) → GoodSetup rates st → Back (body_in rates st.flags) st (body_bytes st)
  unfolding body_in body_bytes
  body_back st g =
      let fl : ℕ = st.flags in
      let l : ℕ = if st.loopback then 1 else 0 in
      let w1 : List ℕ = slots_bytes filter_bytes st.filters in
      let w2 : List ℕ = slots_bytes periodic_bytes st.periodics in
      then_back _ st.filters st w1 (w2 ++ (bytes_of st.rate ++ bytes_of l)) (slots_back (filter_in fl) filter_bytes (GoodFilter fl) (filter_back_law fl) st.filters g.ten_filters g.each_filter)
      (then_back _ st.periodics st w2 (bytes_of st.rate ++ bytes_of l) (slots_back (periodic_in fl) periodic_bytes (GoodPeriodic fl) (periodic_back_law fl) st.periodics g.ten_periodics g.each_periodic)
      (then_back _ st.rate st (bytes_of st.rate) (bytes_of l) (only_back (λ r. member r rates) st.rate (bytes_of st.rate) (number_back st.rate g.rate_small) g.rate_taken)
      (last_back _ l st (bytes_of l) (only_back (λ n. leb n 1) l (bytes_of l) (number_back l (loop_number st.loopback)) (loop_small st.loopback))
      (done_is (record { flags = fl; filters = st.filters; periodics = st.periodics; rate = st.rate; loopback = eqb l 1 }) st
      (ap (λ (b : Bool). record { flags = fl; filters = st.filters; periodics = st.periodics; rate = st.rate; loopback = b }) (loop_back st.loopback))))))

  record Body (s : List ℕ) (flags at : ℕ) (st : Setup) (next : ℕ) : Type 0 where
    stands : Stands s at (body_bytes st) next
    flags_is : st.flags ≡ flags
    good : flags ≤ largest → GoodSetup rates st

  body_there : (s : List ℕ) → Bytes s → (flags at : ℕ) (st : Setup) (next : ℕ) → body_in rates flags s at ≡ some (st, next) → Body s flags at st next
  unfolding body_in body_bytes
  body_there s b flags at st next e =
      let x = split (slots_in (filter_in flags)) _ s at st next e in
      let y = split (slots_in (periodic_in flags)) _ s x.place st next x.rest in
      let z = split (only (λ r. member r rates) number) _ s y.place st next y.rest in
      let u = split (only (λ n. leb n 1) number) _ s z.place st next z.rest in
      let made : Setup = record { flags = flags; filters = x.what; periodics = y.what; rate = z.what; loopback = eqb u.what 1 } in
      let d = done_there made st s u.place next u.rest in
      let fs = slots_there (filter_in flags) filter_bytes (GoodFilter flags) s b (filter_there s b flags) at x.what x.place x.first in
      let ps = slots_there (periodic_in flags) periodic_bytes (GoodPeriodic flags) s b (periodic_there s b flags) x.place y.what y.place y.first in
      let o = only_there (λ r. member r rates) number z.what s y.place z.place z.first in
      let n = number_there s y.place z.what z.place b o.0 in
      let q = only_there (λ n. leb n 1) number u.what s z.place u.place u.first in
      let m = number_there s z.place u.what u.place b q.0 in
      let l : Stands s z.place (bytes_of (if eqb u.what 1 then 1 else 0)) u.place =
      subst (λ (k : ℕ). Stands s z.place (bytes_of k) u.place) (sym (loop_there u.what (leb→le u.what 1 q.1))) m.0 in
      let w3 : List ℕ = bytes_of z.what in
      let w4 : List ℕ = bytes_of (if eqb u.what 1 then 1 else 0) in
      let w2 : List ℕ = slots_bytes periodic_bytes y.what in
      let w1 : List ℕ = slots_bytes filter_bytes x.what in
      subst (λ (v : Setup). Body s flags at v next) d.0
      (subst (λ (j : ℕ). Body s flags at made j) d.1
      (record {
        stands =
            chain s at x.place u.place w1 (w2 ++ (w3 ++ w4)) fs.stands
            (chain s x.place y.place u.place w2 (w3 ++ w4) ps.stands (chain s y.place z.place u.place w3 w4 n.0 l));
        flags_is = refl;
        good = λ h. record {
          flags_small = h;
          ten_filters = fs.good.0;
          each_filter = fs.good.1;
          ten_periodics = ps.good.0;
          each_periodic = ps.good.1;
          rate_small = n.1;
          rate_taken = o.1;
        };
      }))

  -- ---- the whole

  pub new_back : (st : Setup) → GoodSetup rates st → Back (store_in rates) st (store_bytes st)
  unfolding store_in store_bytes
  new_back st g = then_back (version_in rates) 2 st (bytes_of 2) (bytes_of st.flags ++ body_bytes st) (number_back 2 (omega arith)) (unfold version_in in rest)
    where
      rest : Back (number >>= body_in rates) st (bytes_of st.flags ++ body_bytes st)
      rest = then_back (body_in rates) st.flags st (bytes_of st.flags) (body_bytes st) (number_back st.flags g.flags_small) (body_back st g)

  -- WHAT WAS WRITTEN READS BACK
  pub stored_back : (st : Setup) → GoodSetup rates st → store_in rates (store_bytes st) 0 ≡ some (st, length (store_bytes st))
  stored_back st g =
      new_back st g (store_bytes st) [] 0 (sym (append-nil (store_bytes st))) ∙ ap (λ (n : ℕ). some (st, n)) (omega arith)

  pub stored_whole : (st : Setup) → GoodSetup rates st → read_whole (store_in rates) (store_bytes st) ≡ some st
  stored_whole st g = whole_back st (store_bytes st) (new_back st g)

  -- version 1, of a set-up of flags 0: by the old reader and by the new
  pub old_back : (st : Setup) → GoodSetup rates st → st.flags ≡ 0 → Back (old_in rates) st (old_bytes st)
  unfolding old_in old_bytes
  old_back st g z =
      then_back _ 1 st (bytes_of 1) (body_bytes st) (only_back _ 1 (bytes_of 1) (number_back 1 (omega arith)) tt)
      (subst (λ (k : ℕ). Back (body_in rates k) st (body_bytes st)) z (body_back st g))

  pub old_whole : (st : Setup) → GoodSetup rates st → st.flags ≡ 0 → read_whole (store_in rates) (old_bytes st) ≡ some st
  unfolding store_in old_bytes
  old_whole st g z = whole_back st (old_bytes st) (then_back (version_in rates) 1 st (bytes_of 1) (body_bytes st) (number_back 1 (omega arith)) (unfold version_in in rest))
    where
      rest : Back (body_in rates 0) st (body_bytes st)
      rest = subst (λ (k : ℕ). Back (body_in rates k) st (body_bytes st)) z (body_back st g)

  -- EVERY LIST THAT READS AS A SET-UP IS ITS BYTES
  pub read_exact : (bs : List ℕ) → Bytes bs → (st : Setup) → read_whole (store_in rates) bs ≡ some st → Exact rates bs st
  unfolding store_in store_bytes old_bytes
  read_exact bs b st e =
      let t = whole_there (number >>= version_in rates) bs st e in
      let x = split number (version_in rates) bs 0 st t.next t.read in
      let n = number_there bs 0 x.what x.place b x.first in
      go t.next t.ends x.what x.place n.0 (eqb x.what 1) refl (eqb x.what 2) refl (unfold version_in in x.rest)
    where
      end : (next : ℕ) (w : List ℕ) → next ≡ length bs → Stands bs 0 w next → bs ≡ w
      end next w h q =
          let none_left : drop next bs ≡ [] = drop_of_length-le bs {i = next} (omega arith) in
          q ∙ ap (λ (l : List ℕ). w ++ l) none_left ∙ append-nil w

      go : (next : ℕ) → next ≡ length bs → (v place : ℕ) → Stands bs 0 (bytes_of v) place → (one : Bool) → eqb v 1 ≡ one → (two : Bool) → eqb v 2 ≡ two
          → (if one then body_in rates 0 else if two then number >>= body_in rates else bad) bs place ≡ some (st, next) → Exact rates bs st
      go next h v place q true p two r i =
          let y = body_there bs b 0 place st next i in
          let f : Stands bs 0 (bytes_of 1) place = subst (λ (k : ℕ). Stands bs 0 (bytes_of k) place) (eqb-true v 1 p) q in
          record { bytes = inr (end next (old_bytes st) h (chain bs 0 place next (bytes_of 1) (body_bytes st) f y.stands), y.flags_is); good = y.good (omega arith) }
      go next h v place q false p true r i =
          let x = split number (body_in rates) bs place st next i in
          let y = body_there bs b x.what x.place st next x.rest in
          let n = number_there bs place x.what x.place b x.first in
          let f : Stands bs 0 (bytes_of 2) place = subst (λ (k : ℕ). Stands bs 0 (bytes_of k) place) (eqb-true v 2 r) q in
          let k : Stands bs place (bytes_of st.flags) x.place = subst (λ (k : ℕ). Stands bs place (bytes_of k) x.place) (sym y.flags_is) n.0 in
          record {
            bytes = inl (end next (store_bytes st) h (chain bs 0 place next (bytes_of 2) (bytes_of st.flags ++ body_bytes st) f (chain bs place x.place next (bytes_of st.flags) (body_bytes st) k y.stands)));
            good = y.good n.1;
          }
      go next h v place q false p false r i = bad_there st bs place next i

  -- A VERSION 2 STORE THAT READS AS A SET-UP IS EXACTLY ITS BYTES
  pub new_exact : (rest : List ℕ) → Bytes (2 ∷ rest) → (st : Setup) → read_whole (store_in rates) (2 ∷ rest) ≡ some st → 2 ∷ rest ≡ store_bytes st
  unfolding old_bytes bytes_of groups
  new_exact rest b st e = go (read_exact (2 ∷ rest) b st e).bytes
    where
      go : (2 ∷ rest ≡ store_bytes st) ⊎ ((2 ∷ rest ≡ old_bytes st) × (st.flags ≡ 0)) → 2 ∷ rest ≡ store_bytes st
      go (inl q) = q
      go (inr q) =
          let z : ◌≡◌ {A = ℕ} 2 1 = ap (λ (l : List ℕ). lib.ListN.get_or l 0 0) q.0 in
          absurd (omega arith)

  -- a version 1 store has flags 0
  pub old_flags : (rest : List ℕ) → Bytes (1 ∷ rest) → (st : Setup) → read_whole (store_in rates) (1 ∷ rest) ≡ some st → st.flags ≡ 0
  unfolding store_bytes bytes_of groups
  old_flags rest b st e = go (read_exact (1 ∷ rest) b st e).bytes
    where
      go : (1 ∷ rest ≡ store_bytes st) ⊎ ((1 ∷ rest ≡ old_bytes st) × (st.flags ≡ 0)) → st.flags ≡ 0
      go (inr q) = q.1
      go (inl q) =
          let z : ◌≡◌ {A = ℕ} 1 2 = ap (λ (l : List ℕ). lib.ListN.get_or l 0 0) q in
          absurd (omega arith)

  -- ---- the reader of version 1

  -- it refuses every list whose first number is not 1, whatever follows
  pub old_other : (bs : List ℕ) (v n : ℕ) → number bs 0 ≡ some (v, n) → (v ≡ 1 → ⊥) → read_whole (old_in rates) bs ≡ none
  unfolding old_in
  old_other bs v n e h =
      whole_none _ bs (then_none (only (eqb 1) number) _ bs 0 (only_none (eqb 1) number v bs 0 n e (ne_eqb 1 v (λ z. h (sym z)))))

  -- EVERY LIST THAT BEGINS WITH 2 IS REFUSED BY IT
  pub old_reader : (bs : List ℕ) → read_whole (old_in rates) (2 ∷ bs) ≡ none
  unfolding old_in only ◌>>=◌ bind where_true bad read_whole nothing_after number number_in front joined highest shortest numbers.taken
  old_reader bs = refl
