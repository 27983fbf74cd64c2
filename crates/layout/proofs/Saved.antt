-- Saved set-ups and what a region can hold: a channel's set-up is good, and a good set-up can be loaded. Assumes nothing.
use Prim.Native.Nat.{ℕ, ◌+◌, ◌-◌, ◌≤◌, ◌<◌}
use mathlib.Core.Path.{◌≡◌, refl, sym, ap, ◌∙◌, subst}
use mathlib.Core.Bool.{Bool, true, false, not}
use mathlib.Core.Option.{Option, none, some}
use mathlib.Core.List.{List, [], ◌∷◌, ◌++◌, map}
use mathlib.Core.Logic.{inl, inr}
use native.Mathlib.Omega.{arith}
use lib.Dec.{T, ltb→lt, leb→le}
use lib.ListN.{length, take, drop, get_or, length-map, length-drop, take-append-drop}
use lib.Seq.{length-take-le}
use Rattle.codec.specs.Plain.{all, is_byte, zeros, all_zero, member}
use Rattle.codec.specs.Code.{byte}
use Rattle.codec.proofs.Tests.{left, right, join}
use Rattle.codec.proofs.Lists.{all_at, all_take, of_member, zeros_of}
use Rattle.codec.proofs.Many.{many_count, many_each}
use Rattle.number.specs.Number.{largest}
use Rattle.number.specs.Laws as numbers
use Rattle.machine.specs.Codes.{three_rates}
use Rattle.machine.specs.Message.{bit, width_flag, Rec, twelve}
use Rattle.machine.specs.Filter.{Slots, Filter}
use Rattle.machine.specs.Store.{Setup}
use Rattle.machine.specs.Channel.{Open, Periodic, opened, is_raw_flags, listens, saved_of, setup_of, on_save, starts_anew, loaded}
use Rattle.setups.specs.Good.{Holds, Every, Row, GoodFilter, clean_rec, GoodPeriodic, GoodSetup}
use Rattle.setups.proofs.Length.{ShortFlags, save_fits}
use Rattle.layout.specs.Record.{row, out_cell}
use Rattle.layout.proofs.Held.{config_flags, config_rate, config_make, Stored, out_make, out_sound, filter_place, filters_rows, no_filter, filter_make, filter_sound, periodic_place, periodics_rows, no_periodic, periodic_sound, periodic_make}
use Rattle.layout.proofs.Good.{Fine, fl, Good, good_ok}

-- a list of bytes, number by number
pub each_byte : (m : List ℕ) → T (all is_byte m) → numbers.Bytes m
each_byte m t i = ltb→lt (get_or m i 0) 256 (all_at is_byte m i 0 tt t)

-- ---- a filter

row_good : (n : ℕ) (m : List ℕ) → n ≤ 12 → T (row.ok m) → T (all_zero (drop n m)) → Row n m
unfolding row byte
row_good n m h t z =
    let l : length m ≡ 12 = many_count 12 byte m t in
    let front : length (take n m) ≡ n = length-take-le n m (omega arith) in
    let rest : length (drop n m) ≡ 12 - length (take n m) = length-drop n m ∙ omega arith in
    record {
      long = front;
      is = sym (take-append-drop n m) ∙ ap (λ (r : List ℕ). take n m ++ r) (sym (zeros_of (drop n m) z) ∙ ap (λ (k : ℕ). zeros k) rest) ∙ whole;
      bytes = all_take is_byte n m (many_each 12 byte m t);
    }
  where
    whole : take n m ++ zeros (12 - length (take n m)) ≡ twelve (take n m)
    whole = unfold twelve in refl

pub filter_place_law : (flags : ℕ) (f : Filter) → GoodFilter flags f → T (filter_place flags (some f))
filter_place_law flags f g =
    subst (λ (x : Filter). T (filter_place flags (some x)))
    (λ i. record { block = f.block; wide = f.wide; size = f.size; mask = sym g.mask.is i; pattern = sym g.pattern.is i })
    (filter_make flags f.size f.block f.wide (take f.size f.mask) (take f.size f.pattern) g.width g.low g.high g.mask.long g.pattern.long
    g.mask.bytes g.pattern.bytes)

filter_rows : (flags : ℕ) (f : Filter) → T (filter_place flags (some f)) → T (row.ok f.mask) × T (row.ok f.pattern)
unfolding filter_place
filter_rows flags f t = (search (left, right) depth 9, search (left, right) depth 9)

pub place_filter : (flags : ℕ) (f : Filter) → T (filter_place flags (some f)) → GoodFilter flags f
place_filter flags f t =
    let s = filter_sound flags f t in
    let r = filter_rows flags f t in
    record {
      low = s.low;
      high = s.high;
      width = s.fits;
      mask = row_good f.size f.mask s.high r.0 s.mask_ends;
      pattern = row_good f.size f.pattern s.high r.1 s.pattern_ends;
    }

-- ---- a periodic

clean_cell : (flags : ℕ) (wide : Bool) (b : List ℕ) → T (not (listens flags)) → Stored flags wide b → T ((out_cell flags).ok (clean_rec wide b))
unfolding width_flag bit member
clean_cell flags true b may s = out_make flags _ (record { no_status = refl; width_flag_law = tt; no_stamp = refl; speaks = may; stored = s })
clean_cell flags false b may s = out_make flags _ (record { no_status = refl; width_flag_law = tt; no_stamp = refl; speaks = may; stored = s })

pub periodic_place_law : (flags : ℕ) (p : Rec × ℕ) → GoodPeriodic flags p → T (periodic_place flags (starts_anew (some p)))
unfolding starts_anew
periodic_place_law flags p g =
    let q = g.message in
    let lo = g.low in
    let cell = clean_cell flags q.wide p.0.bytes g.speaks (record { low = q.low; high = q.high; bytes = q.all_bytes; identifier = q.identifier; width = q.width }) in
    periodic_make flags _
    (record { message_ok = subst (λ (r : Rec). T ((out_cell flags).ok r)) (sym q.is) cell; low = lo; high = g.high; phase_below = omega arith })

flag_back : (n : ℕ) → T (member n (0 ∷ 0x100 ∷ [])) → n ≡ width_flag (bit 0x100 n)
unfolding width_flag bit
flag_back n t = of_member (λ (k : ℕ). k ≡ width_flag (bit 0x100 k)) (0 ∷ 0x100 ∷ []) (refl, (refl, tt)) n t

pub place_periodic : (flags : ℕ) (p : Periodic) → T (periodic_place flags (some p)) → GoodPeriodic flags (p.message, p.interval)
place_periodic flags p t =
    let s = periodic_sound flags p t in
    let r : Rec = p.message in
    let q = out_sound flags r s.message_ok in
    record {
      speaks = q.speaks;
      message =
          record {
            wide = bit 0x100 r.tx;
            is = λ i. record { rx = q.no_status i; tx = flag_back r.tx q.width_flag_law i; time = q.no_stamp i; bytes = r.bytes };
            all_bytes = q.stored.bytes;
            low = q.stored.low;
            high = q.stored.high;
            identifier = q.stored.identifier;
            width = q.stored.width;
          };
      low = s.low;
      high = s.high;
    }

-- ---- ten places

module _ {A B : Type 0} (f : Option A → Option B) (P : A → Type 0) (q : Option B → Bool) where
  every_all : T (q (f none)) → ((a : A) → P a → T (q (f (some a)))) → (xs : List (Option A)) → Every (Holds P) xs → T (all q (map f xs))
  every_all n g [] h = tt
  every_all n g (none ∷ xs) h = join (q (f none)) (all q (map f xs)) n (every_all n g xs h.1)
  every_all n g (some a ∷ xs) h = join (q (f (some a))) (all q (map f xs)) (g a h.0) (every_all n g xs h.1)

module _ {A : Type 0} (P : A → Type 0) (q : Option A → Bool) where
  every_place : T (q none) → ((a : A) → P a → T (q (some a))) → (xs : List (Option A)) → Every (Holds P) xs → T (all q xs)
  every_place n g [] h = tt
  every_place n g (none ∷ xs) h = join (q none) (all q xs) n (every_place n g xs h.1)
  every_place n g (some a ∷ xs) h = join (q (some a)) (all q xs) (g a h.0) (every_place n g xs h.1)

  place_every : ((a : A) → T (q (some a)) → P a) → (xs : List (Option A)) → T (all q xs) → Every (Holds P) xs
  place_every g [] t = tt
  place_every g (none ∷ xs) t = (tt, place_every g xs (right (q none) (all q xs) t))
  place_every g (some a ∷ xs) t = (g a (left (q (some a)) (all q xs) t), place_every g xs (right (q (some a)) (all q xs) t))

kept_every : (flags : ℕ) (xs : Slots Periodic) → Every (Holds (λ p. GoodPeriodic flags (p.message, p.interval))) xs → Every (Holds (GoodPeriodic flags)) (map saved_of xs)
unfolding saved_of
kept_every flags [] h = tt
kept_every flags (none ∷ xs) h = (tt, kept_every flags xs h.1)
kept_every flags (some p ∷ xs) h = (h.0, kept_every flags xs h.1)

anew_none : (flags : ℕ) → T (periodic_place flags (starts_anew none))
unfolding starts_anew
anew_none flags = no_periodic flags

-- ---- the whole

-- A GOOD SET-UP OF ITS FLAGS CAN BE LOADED: the region can hold what the channel becomes
pub fine_loaded : (rates : List ℕ) → ((r : ℕ) → T (member r rates) → T (member r three_rates)) → (o : Open) → Good o → (s : Setup) → GoodSetup rates s → s.flags ≡ fl o
    → Fine (opened (loaded o s))
unfolding loaded
fine_loaded rates known o g s h e =
    let k : ℕ = fl o in
    let fs : T (all (filter_place k) s.filters) =
    every_place (GoodFilter k) (filter_place k) (no_filter k) (filter_place_law k) s.filters
    (subst (λ (j : ℕ). Every (Holds (GoodFilter j)) s.filters) e h.each_filter) in
    let ps : T (all (periodic_place k) (map starts_anew s.periodics)) =
    every_all starts_anew (GoodPeriodic k) (periodic_place k) (anew_none k) (periodic_place_law k) s.periodics
    (subst (λ (j : ℕ). Every (Holds (GoodPeriodic j)) s.periodics) e h.each_periodic) in
    good_ok _
    (record {
      config_ok = config_make _ (config_flags o.config g.config_ok) (known s.rate h.rate_taken);
      filters_ok = (filters_rows k).make s.filters h.ten_filters fs;
      periodics_ok = (periodics_rows k).make (map starts_anew s.periodics) (length-map s.periodics starts_anew ∙ h.ten_periodics) ps;
      written_ok = g.written_ok;
      flight_ok = g.flight_ok;
      queue_ok = g.queue_ok;
      last_ok = g.last_ok;
      link_ok = g.link_ok;
    })

-- THE SET-UP OF A CHANNEL THAT A REGION HOLDS IS GOOD, while set takes its rate
pub good_setup : (rates : List ℕ) (o : Open) → Good o → T (member o.config.rate rates) → GoodSetup rates (setup_of o)
unfolding setup_of is_raw_flags three_rates
good_setup rates o g t =
    let k : ℕ = fl o in
    let ps : Slots Periodic = o.sending.periodics in
    record {
      flags_small = of_member (λ (n : ℕ). n ≤ largest) _ (search (leb→le, tt) depth 9) k (config_flags o.config g.config_ok);
      ten_filters = (filters_rows k).count o.filters g.filters_ok;
      each_filter = place_every (GoodFilter k) (filter_place k) (place_filter k) o.filters ((filters_rows k).each o.filters g.filters_ok);
      ten_periodics = length-map ps saved_of ∙ (periodics_rows k).count ps g.periodics_ok;
      each_periodic =
          kept_every k ps (place_every (λ p. GoodPeriodic k (p.message, p.interval)) (periodic_place k) (place_periodic k) ps ((periodics_rows k).each ps g.periodics_ok));
      rate_small = of_member (λ (n : ℕ). n ≤ largest) _ (omega arith, (omega arith, (omega arith, tt))) o.config.rate (config_rate o.config g.config_ok);
      rate_taken = t;
    }

-- 1,149 BYTES ALWAYS SUFFICE to save it
pub good_fits : (o : Open) → Good o → (b : List ℕ) → 1149 ≤ length b → (on_save o b).1.code ≡ 0x00
unfolding is_raw_flags listens bit three_rates
good_fits o g b h =
    let r : T (member o.config.rate three_rates) = config_rate o.config g.config_ok in
    save_fits three_rates o b (good_setup three_rates o g r)
    (of_member ShortFlags _ (inl (omega arith), (inl (omega arith), (inl (omega arith), (inl (omega arith), (inr tt, (inr tt, (inr tt, (inr tt, tt)))))))) (fl o) (config_flags o.config g.config_ok))
    (of_member (λ (n : ℕ). n < 2097152) _ (omega arith, (omega arith, (omega arith, tt))) o.config.rate r) h
