-- What start and stop do to the bytes of a region is what the machine does to the channel. Assumes nothing.
use mathlib.Core.Path.{◌≡◌, refl, sym, ap, ◌∙◌}
use Prim.Native.Nat.{ℕ, zero, suc, ◌+◌, ◌*◌, ◌-◌, ◌≤◌, ◌<◌}
use native.Mathlib.Omega.{arith}
use mathlib.Core.Bool.{Bool, true, false, not, ◌&&◌}
use mathlib.Core.Option.{none, some}
use mathlib.Core.List.{List, [], ◌∷◌}
use lib.ListN.{length, get_or, set}
use lib.Dec.{eqb, leb, eqb→eq, nltb→le}
use borrow.Author.Tests.{le-leb, lt-leb, le-ltb, lt-ltb, ne_eqb}
use borrow.Rule.Slice.PartMut.{put_mid}
use Rattle.codec.specs.Plain.{within}
use Rattle.codec.specs.Word.{word_at}
use Rattle.codec.proofs.Tests.{join, below, above, between}
use Rattle.machine.specs.Codes.{code_of}
use Rattle.machine.specs.Message.{message_code}
use Rattle.machine.specs.Filter.{Slots, free, taken, has}
use Rattle.machine.proofs.Slots.{has_place, has_none}
use Rattle.machine.specs.Channel.{Periodic, start_periodic, stop_periodic, unless, done_with, shorter, periodic_code, periodic_of, on_start_periodic, on_stop_periodic, on_open}
use Rattle.machine.specs.Limits.{most_places, record_size, least_interval, most_interval}
use Rattle.layout.specs.Sizes.{periodics_at, periodics_size, flags_at, number_size}
use Rattle.layout.specs.Memory.{periodics}
use Rattle.layout.specs.Promise.{Opened, gives, call_outcome}
use Rattle.machine.proofs.Tables.{Telling, failed, more_tests, no_more_tests, own_code, yes}
use Rattle.layout.proofs.Places.{fl}
use Rattle.layout.proofs.Region.{open_of, moves, stays, word_of, flags_part}
use Rattle.stores.proofs.Periodics.{places_of, part_of, with_places, lent, lent_held, lent_back, ten_held, held_at, empty_at, taken_at}
use Rattle.periodics.specs.Start.{start_code}

module _ (r : List ℕ) (o : Opened r) where
  -- a number that code found of them
  pub number_is : (i : ℕ) → ((flags : ℕ) → i ≡ free ((periodics flags).get (part_of r))) → i ≡ free (places_of r)
  number_is i e = e (fl (open_of r)) ∙ ap free (lent_held r o)

  -- a code that code found by the flags
  pub code_is : (message : List ℕ) (interval code n : ℕ) → n ≡ word_at flags_at r → code ≡ start_code n message interval → code ≡ start_code (fl (open_of r)) message interval
  code_is message interval code n e k = k ∙ ap (λ (f : ℕ). start_code f message interval) (e ∙ word_of (flags_part r o))

-- ---- start: the tests that look at no place

last_test : (k : ℕ) → k ≡ code_of ((not (eqb k 0), k) ∷ [])
unfolding code_of
last_test zero = refl
last_test (suc k) = sym (rw (ne_eqb (suc k) 0 (λ e. omega arith)))

module _ (flags : ℕ) (message : List ℕ) (interval : ℕ) where
  tests : {a b : Bool} {k : ℕ} → shorter message 1 ≡ a → within least_interval most_interval interval ≡ b → message_code flags message ≡ k → start_code flags message interval ≡ code_of ((a, 0x04) ∷ (not b, 0x0B) ∷ (not (eqb k 0), k) ∷ [])
  unfolding start_code
  tests ea eb ek = λ j. code_of ((ea j, 0x04) ∷ (not (eb j), 0x0B) ∷ (not (eqb (ek j) 0), ek j) ∷ [])

  long_enough : record_size ≤ length message → shorter message 1 ≡ false
  unfolding shorter
  long_enough h = le-ltb (length message) record_size h

  pub start_short : length message < record_size → 0x04 ≡ start_code flags message interval
  unfolding code_of shorter
  start_short h = sym (tests (lt-ltb (length message) record_size h) refl refl)

  pub start_early : record_size ≤ length message → interval < least_interval → 0x0B ≡ start_code flags message interval
  unfolding code_of
  start_early h l = sym (tests (long_enough h) (below least_interval most_interval interval l) refl)

  pub start_late : record_size ≤ length message → least_interval ≤ interval → most_interval < interval → 0x0B ≡ start_code flags message interval
  unfolding code_of
  start_late h l g = sym (tests (long_enough h) (above least_interval most_interval interval g) refl)

  pub start_message : record_size ≤ length message → least_interval ≤ interval → interval ≤ most_interval → message_code flags message ≡ start_code flags message interval
  unfolding code_of
  start_message h l g = last_test (message_code flags message) ∙ sym (tests (long_enough h) (between least_interval most_interval interval l g) refl)

-- the three tests, of which the last gives its own code
module _ (flags : ℕ) (message : List ℕ) (interval : ℕ) where
  abbrev three : List (Bool × ℕ)
  three = (shorter message 1, 0x04) ∷ (not (within least_interval most_interval interval), 0x0B) ∷ (not (eqb (message_code flags message) 0), message_code flags message) ∷ []

  telling : Telling three
  telling = join (not (eqb (message_code flags message) 0 && not (eqb (message_code flags message) 0))) true (own_code (message_code flags message)) tt

  pub passed : 0 ≡ start_code flags message interval → (record_size ≤ length message) × (message_code flags message ≡ 0)
  unfolding start_code shorter
  passed e = let f = failed three telling (sym e) in (nltb→le (length message) record_size f.0, eqb→eq (message_code flags message) 0 (yes (eqb (message_code flags message) 0) f.1.1.0))

-- ---- start, with the places

module _ (r : List ℕ) (o : Opened r) (message : List ℕ) (interval : ℕ) (rates : List ℕ) (t : ℕ) where
  refusal : (code : ℕ) → (code ≡ 0 → ⊥) → periodic_code (open_of r) message interval ≡ code → gives code 0 [] r ≡ call_outcome rates t r (start_periodic message interval)
  unfolding on_open on_start_periodic unless
  refusal zero n e = absurd (n refl)
  refusal (suc k) n e = stays r o rates t (start_periodic message interval) (suc k) 0 [] (rw e)

  pub start_refused : (code : ℕ) → code ≡ start_code (fl (open_of r)) message interval → (code ≡ 0 → ⊥) → gives code 0 [] r ≡ call_outcome rates t r (start_periodic message interval)
  unfolding periodic_code start_code
  start_refused code e n = refusal code n (no_more_tests (three (fl (open_of r)) message interval) ((leb most_places (free (places_of r)), 0x0C) ∷ []) (λ z. n (e ∙ z)) ∙ sym e)

  module _ (e : 0 ≡ start_code (fl (open_of r)) message interval) where
    room_test : periodic_code (open_of r) message interval ≡ code_of ((leb most_places (free (places_of r)), 0x0C) ∷ [])
    unfolding periodic_code start_code
    room_test = more_tests (three (fl (open_of r)) message interval) ((leb most_places (free (places_of r)), 0x0C) ∷ []) (telling (fl (open_of r)) message interval) (sym e)

    pub start_full : (i : ℕ) → i ≡ free (places_of r) → most_places ≤ i → gives 0x0C 0 [] r ≡ call_outcome rates t r (start_periodic message interval)
    unfolding code_of
    start_full i ei h = refusal 0x0C (λ z. omega arith) (room_test ∙ rw (le-leb most_places (free (places_of r)) (omega arith)))

    pub start_done : (i : ℕ) → i ≡ free (places_of r) → i < most_places → (ys : List ℕ)
        → ((flags : ℕ) → ys ≡ (periodics flags).put (set ((periodics flags).get (part_of r)) i (some (periodic_of message interval))))
        → gives 0 (i + 1) [] (put_mid periodics_at periodics_size r ys) ≡ call_outcome rates t r (start_periodic message interval)
    unfolding on_open on_start_periodic unless done_with code_of
    start_done i ei h ys ey =
        let k : periodic_code (open_of r) message interval ≡ 0 = room_test ∙ rw (lt-leb most_places (free (places_of r)) (omega arith)) in
        moves r o rates t (start_periodic message interval) (with_places r (set (places_of r) i (some (periodic_of message interval)))) 0 (i + 1) [] _
        (rw k (rw ei refl)) (lent_back r o (λ ps. set ps i (some (periodic_of message interval))) ys ey)

-- ---- stop

module _ (r : List ℕ) (o : Opened r) (number : ℕ) (rates : List ℕ) (t : ℕ) where
  stop_none : has (places_of r) number ≡ false → gives 0x0D 0 [] r ≡ call_outcome rates t r (stop_periodic number)
  unfolding on_open on_stop_periodic unless code_of
  stop_none e = stays r o rates t (stop_periodic number) 0x0D 0 [] (rw e)

  stop_done : has (places_of r) number ≡ true → (i : ℕ) → i ≡ number - 1 → (ys : List ℕ) → ((flags : ℕ) → ys ≡ (periodics flags).put (set ((periodics flags).get (part_of r)) i none))
      → gives 0 0 [] (put_mid periodics_at periodics_size r ys) ≡ call_outcome rates t r (stop_periodic number)
  unfolding on_open on_stop_periodic unless code_of done_with
  stop_done e i ei ys ey =
      moves r o rates t (stop_periodic number) (with_places r (set (places_of r) i none)) 0 0 [] _
      (rw e (rw ei refl)) (lent_back r o (λ ps. set ps i none) ys ey)

  pub stop_zero : number < 1 → gives 0x0D 0 [] r ≡ call_outcome rates t r (stop_periodic number)
  stop_zero h = stop_none (has_none (places_of r) number (below 1 (length (places_of r)) number h))

  ten_places : length (places_of r) ≡ most_places
  ten_places = ap length (sym (lent_held r o)) ∙ ten_held (part_of r) (lent r o)

  pub stop_high : most_places < number → gives 0x0D 0 [] r ≡ call_outcome rates t r (stop_periodic number)
  stop_high h = stop_none (has_none (places_of r) number (above 1 (length (places_of r)) number (omega (arith, ten_places))))

  module _ (i : ℕ) (ei : number ≡ i + 1) (h : i < most_places) where
    place_is : get_or (places_of r) i none ≡ held_at (part_of r) (lent r o) i h
    place_is = ap (λ (ps : Slots Periodic). get_or ps i none) (sym (lent_held r o))

    pub stop_empty : word_at (i * number_size) (part_of r) ≡ 0 → gives 0x0D 0 [] r ≡ call_outcome rates t r (stop_periodic number)
    unfolding taken
    stop_empty z = stop_none (has_place (places_of r) number i ei ∙ ap taken (place_is ∙ empty_at (part_of r) (lent r o) i h z))

    pub stop_taken : (word_at (i * number_size) (part_of r) ≡ 0 → ⊥) → (ys : List ℕ) → ((flags : ℕ) → ys ≡ (periodics flags).put (set ((periodics flags).get (part_of r)) i none))
        → gives 0 0 [] (put_mid periodics_at periodics_size r ys) ≡ call_outcome rates t r (stop_periodic number)
    unfolding taken
    stop_taken n ys ey = stop_done (has_place (places_of r) number i ei ∙ ap taken (place_is ∙ (taken_at (part_of r) (lent r o) i h n).is)) i (omega arith) ys ey
