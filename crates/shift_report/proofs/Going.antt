-- How the count of a recording begins, goes on from event to event, and ends. Assumes nothing.
use Prim.Native.Nat.{ℕ, zero, suc, ◌+◌, ◌-◌, ◌≤◌, ◌<◌}
use mathlib.Core.Path.{◌≡◌, refl, sym, ap, ap₂, ◌∙◌, subst}
use mathlib.Core.Option.{Option, none, some}
use mathlib.Core.List.{List, [], ◌∷◌}
use native.Mathlib.Omega.{arith}
use borrow.Author.Tests.{le-leb, lt-leb, lt-ltb, le-ltb, eq-eqb, ne_eqb}
use lib.Dec.{T}
use lib.ListN.{length, get_or, length-replicate}
use Rattle.codec.specs.Plain.{zeros}
use Rattle.machine.specs.Step.{Event}
use Rattle.layout.specs.Reach.{Bytes}
use Rattle.whole.specs.Device.{Device, power_on, step, run}
use Rattle.memory.specs.Sizes.{box_size}
use Rattle.memory.specs.Memory.{memory, image, load, valid}
use Rattle.memory.proofs.Memory.{power_on_zeros, load_image, image_load, valid_image, ok_load}
use Rattle.memory.proofs.Reach.{step_ok, power_on_ok}
use Rattle.recording_sizes.specs.Sizes.{longest}
use Rattle.edition.specs.Edition.{rates_of, start_of}
use Rattle.events.specs.Events.{read_event}
use Rattle.events.proofs.Ending.{one_at_least, event_ends}
use Rattle.event_list.specs.Run.{and_then, events_from, events_of}
use Rattle.playing.proofs.Turning.{edition_known}
use Rattle.shift_places.specs.Places.{at_held, of_report}
use Rattle.shift.specs.Report.{eleven, of_four, numbers_of, all_numbers}
use Rattle.shift_cells.specs.Sums.{plus, Sums}
use Rattle.shift_cells.proofs.Plus.{zeros_plus, plus_assoc, get_d_plus}
use Rattle.shift_counts.specs.Adds.{adds, on_each, held_at}
use Rattle.shift_report.specs.Promise.{tells, box_after, reported}
use Rattle.shift_report.specs.Counting.{CountedAs, everything, Counting, AllCounted}
use Rattle.shift_report.proofs.Totals.{event_more, none_more, all_below_law}

-- ---- the events from a place on

module _ (s : List ℕ) (at : ℕ) where
  no_more : (turns : ℕ) → length s ≤ at → events_from turns s at ≡ []
  unfolding events_from
  no_more zero h = refl
  no_more (suc turns) h = rw (le-leb (length s) at h)

  next_event : (turns : ℕ) → at < length s → length s ≤ at + turns → events_from turns s at ≡ and_then (read_event s at) (λ next. events_from (turns - 1) s next)
  unfolding events_from
  next_event zero h k = absurd (omega arith)
  next_event (suc turns) h k = let e : suc turns - 1 ≡ turns = omega arith in rw (lt-leb (length s) at h) (ap (λ (n : ℕ). and_then (read_event s at) (λ next. events_from n s next)) (sym e))

-- ---- what was read at a place, counted

module _ (rates s : List ℕ) (at : ℕ) (m xs : List ℕ) where
  pub bad_counted : read_event s at ≡ none → CountedAs rates (read_event s at) s m xs (length s) m xs
  unfolding CountedAs
  bad_counted q = subst (λ (x : Option (Event × ℕ)). CountedAs rates x s m xs (length s) m xs) (sym q) (refl, refl, refl)

  pub good_counted : {e : Event} {next : ℕ} {m' xs' : List ℕ} → read_event s at ≡ some (e, next) → Bytes e → m' ≡ image (step rates (load m) e).0 → xs' ≡ plus xs (adds rates (load m) e)
      → CountedAs rates (read_event s at) s m xs next m' xs'
  unfolding CountedAs
  good_counted {e} {next} {m'} {xs'} q b em ex = subst (λ (x : Option (Event × ℕ)). CountedAs rates x s m xs next m' xs') (sym q) (refl, b, em, ex)

-- ---- between two events

module _ {s m xs : List ℕ} {at : ℕ} (p : Counting s m xs at) where
  abbrev rates : List ℕ
  rates = rates_of s

  -- no number is large
  pub in_range : Sums xs
  in_range =
      record {
        long = p.long;
        small = λ k. omega (arith, get_d_plus xs (everything rates (load m) (events_from p.turns s at)) k, ap (λ (l : List ℕ). get_or l k 0) p.sums, all_below_law s k);
      }

  -- at the end of the recording all is counted
  pub all_counted : length s ≤ at → AllCounted s m xs
  unfolding run
  all_counted h =
      let z : events_from p.turns s at ≡ [] = no_more s at p.turns h in
      record {
        ok = p.ok;
        memory = sym (image_load m p.ok) ∙ ap image (sym (ap (run rates (load m)) z) ∙ p.ends);
        room = in_range;
        sums = ap (plus xs) (sym (ap (everything rates (load m)) z ∙ none_more rates (load m))) ∙ p.sums;
      }

  module _ (h : at < length s) (next : ℕ) (m' xs' : List ℕ) where
    turn : events_from p.turns s at ≡ and_then (read_event s at) (λ k. events_from (p.turns - 1) s k)
    turn = next_event s at p.turns h p.enough

    -- a bad event
    stops : read_event s at ≡ none → CountedAs rates none s m xs next m' xs' → length xs' ≡ length xs → Counting s m' xs' next
    unfolding CountedAs and_then events_from
    stops q w kept =
        let z : events_from p.turns s at ≡ [] = turn ∙ ap (λ r. and_then r (λ k. events_from (p.turns - 1) s k)) q in
        record {
          ok = subst (λ (x : List ℕ). T (valid x)) (sym w.1) p.ok;
          long = kept ∙ p.long;
          turns = 0;
          enough = omega (arith, w.0);
          sums =
              ap₂ (λ (x y : List ℕ). plus x (everything rates (load y) [])) w.2 w.1
              ∙ ap (λ (es : List Event). plus xs (everything rates (load m) es)) (sym z) ∙ p.sums;
          ends = ap (λ (x : List ℕ). run rates (load x) []) w.1 ∙ ap (run rates (load m)) (sym z) ∙ p.ends;
        }

    -- a good one
    goes : (e : Event) (k : ℕ) → read_event s at ≡ some (e, k) → CountedAs rates (some (e, k)) s m xs next m' xs' → length xs' ≡ length xs → Counting s m' xs' next
    unfolding CountedAs and_then run
    goes e k q w kept =
        let d : Device = load m in
        let d' : Device = (step rates d e).0 in
        let ok' = step_ok rates (edition_known s) d e (ok_load m p.ok) w.1 in
        let l : load m' ≡ d' = ap load w.2 ∙ load_image d' ok' in
        let rest : List Event = events_from (p.turns - 1) s next in
        let z : events_from p.turns s at ≡ e ∷ rest =
        turn ∙ ap (λ r. and_then r (λ j. events_from (p.turns - 1) s j)) q ∙ ap (λ (j : ℕ). e ∷ events_from (p.turns - 1) s j) (sym w.0) in
        record {
          ok = subst (λ (x : List ℕ). T (valid x)) (sym w.2) (valid_image d' ok');
          long = kept ∙ p.long;
          turns = p.turns - 1;
          enough = omega (arith, (event_ends s at e k q).0, one_at_least e, p.enough, w.0);
          sums =
              ap₂ (λ (x : List ℕ) (y : Device). plus x (everything rates y rest)) w.3 l
              ∙ plus_assoc xs (adds rates d e) (everything rates d' rest)
              ∙ ap (plus xs) (event_more rates d e rest)
              ∙ ap (λ (es : List Event). plus xs (everything rates d es)) (sym z) ∙ p.sums;
          ends = ap (λ (y : Device). run rates y rest) l ∙ ap (run rates d) (sym z) ∙ p.ends;
        }

    -- either
    pub goes_on : CountedAs rates (read_event s at) s m xs next m' xs' → length xs' ≡ length xs → Counting s m' xs' next
    goes_on w kept = by (read_event s at) refl w
      where
        by : (r : Option (Event × ℕ)) → read_event s at ≡ r → CountedAs rates r s m xs next m' xs' → Counting s m' xs' next
        by none q w = stops q w kept
        by (some r) q w = goes r.0 r.1 q w kept

    -- and the place moves on
    pub moves_on : CountedAs rates (read_event s at) s m xs next m' xs' → length s - next < length s - at
    unfolding CountedAs
    moves_on w = by (read_event s at) refl w
      where
        by : (r : Option (Event × ℕ)) → read_event s at ≡ r → CountedAs rates r s m xs next m' xs' → length s - next < length s - at
        by none q w = omega (arith, w.0)
        by (some r) q w = omega (arith, (event_ends s at r.0 r.1 q).0, one_at_least r.0, w.0)

-- ---- from power-on

module _ (s m xs : List ℕ) (em : m ≡ image power_on) (ex : xs ≡ zeros of_report) where
  switched_on_law : load m ≡ power_on
  switched_on_law = ap load em ∙ load_image power_on power_on_ok

  numbers_of_law : everything (rates_of s) power_on (events_of s) ≡ all_numbers s
  unfolding everything all_numbers numbers_of
  numbers_of_law = refl

  so_many : (d : Device) (es : List Event) → length (everything (rates_of s) d es) ≡ of_report
  unfolding everything of_four eleven
  so_many d es = refl

  from : (at turns : ℕ) → length s ≤ at + turns → events_from turns s at ≡ events_of s → Counting s m xs at
  unfolding box_after
  from at turns h e =
      record {
        ok = subst (λ (x : List ℕ). T (valid x)) (sym em) (valid_image power_on power_on_ok);
        long = ap length ex ∙ length-replicate {A = ℕ} of_report 0;
        turns = turns;
        enough = h;
        sums =
            (λ j. plus (ex j) (everything (rates_of s) (switched_on_law j) (e j)))
            ∙ zeros_plus of_report (everything (rates_of s) power_on (events_of s)) (so_many power_on (events_of s)) ∙ numbers_of_law;
        ends = λ j. run (rates_of s) (switched_on_law j) (e j);
      }

  pub begun : length s ≤ longest → (at : ℕ) → at ≡ start_of s → Counting s m xs at
  unfolding events_of
  begun h at e =
      from at (length s) (omega arith) (ap (events_from (length s) s) e ∙ sym (rw (le-ltb longest (length s) h) refl))

  pub too_long : longest < length s → AllCounted s m xs
  unfolding events_of events_from
  too_long h = all_counted (from (length s) 0 (omega arith) (sym (rw (lt-ltb longest (length s) h) refl))) (omega arith)

-- zeros of the right size are a box just switched on
pub zeros_on : (m : List ℕ) → length m ≡ box_size → (ys : List ℕ) → ys ≡ zeros (length m) → ys ≡ image power_on
zeros_on m e ys z = z ∙ ap (λ (n : ℕ). zeros n) e ∙ sym power_on_zeros

-- ---- the promise

module _ (m s xs : List ℕ) where
  pub other_memory : (length m ≡ box_size → ⊥) → tells 0x04 xs m ≡ reported m s xs
  unfolding reported
  other_memory n = rw (ne_eqb (length m) box_size n) refl

  pub other_numbers : length m ≡ box_size → (length xs ≡ of_report → ⊥) → tells 0x04 xs m ≡ reported m s xs
  unfolding reported
  other_numbers e n = rw (eq-eqb (length m) box_size e, ne_eqb (length xs) of_report n) refl

  pub told : length m ≡ box_size → length xs ≡ of_report → (m' ys zs : List ℕ) → AllCounted s m' ys → zs ≡ plus ys (on_each (held_at at_held) (load m')) → tells 0x00 zs m' ≡ reported m s xs
  unfolding reported
  told e n m' ys zs a z = ap₂ (tells 0x00) (z ∙ a.sums) a.memory ∙ rw (eq-eqb (length m) box_size e, eq-eqb (length xs) of_report n) refl
