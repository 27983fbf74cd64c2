-- The part of a region that holds the periodics: its columns, what code reads in them, the part with another periodic at a place; and that part in the region
-- of an open channel. Assumes nothing.
use mathlib.Core.Path.{◌≡◌, refl, sym, ap, ◌∙◌, subst}
use Prim.Native.Nat.{ℕ, ◌+◌, ◌*◌, ◌≤◌, ◌<◌, ◌-◌}
use native.Mathlib.Omega.{arith}
use mathlib.Core.Bool.{not}
use mathlib.Core.Option.{Option, none, some}
use mathlib.Core.List.{List, map}
use lib.Dec.{T, eqb}
use lib.ListN.{length, get_or, set, take, drop, length-map, get_or-map}
use lib.Seq.{get_or-take, get_or-drop}
use borrow.Rule.Slice.PartMut.{put_mid}
use Rattle.codec.specs.Word.{word_at}
use Rattle.codec.specs.Code.{Code, byte, word32, both, via, such, mark, many, vacant, beside, each_via}
use Rattle.codec.proofs.Lists.{all_at}
use Rattle.codec.proofs.Lawful.{Lawful, word_lawful, mark_lawful}
use Rattle.codec.proofs.Many.{vacant_lawful}
use Rattle.codec.proofs.Word.{word_part}
use Rattle.codec.proofs.Cells.{Cell, cell_first, cell_next, cell_last, Stored, as_it_was, entry_is, each_ok, each_put, place_set}
use Rattle.machine.specs.Filter.{Slots}
use Rattle.machine.specs.Channel.{Periodic, Chan, with_sending}
use Rattle.machine.specs.Limits.{most_places, record_size, most_interval}
use Rattle.layout.specs.Sizes.{periodics_at, periodics_size, phases_in, pending_in, messages_in, number_size}
use Rattle.layout.specs.Record.{rec36, out_cell}
use Rattle.layout.specs.Memory.{PeriodicRow, periodic_parts, periodic_back, periodic_fits, periodic_columns, periodics, region}
use Rattle.layout.proofs.Memory.{out_lawful, out_shows, periodic_columns_lawful, periodics_lawful}
use Rattle.layout.proofs.Places.{periodics_same, fl}
use Rattle.layout.proofs.Sizes.{out_size_law, periodics_size_law}
use Rattle.codec.proofs.Rows.{rows_set}
use Rattle.layout.proofs.Held.{periodic_place, periodics_rows, no_periodic, periodic_sound}
use Rattle.layout.specs.Promise.{Opened}
use Rattle.layout.proofs.Region.{open_of, periodics_part}
use Rattle.stores.specs.Periodics.{PeriodicPart, changed}

-- ---- the four columns

module _ (flags : ℕ) where
  pub record_lawful : Lawful (vacant (out_cell flags))
  record_lawful = vacant_lawful (out_lawful flags) (out_shows flags)

  pub intervals_cell : Cell (periodic_columns flags) word32 0 (λ p. p.0) (λ n p. (n, p.1))
  unfolding periodic_columns
  intervals_cell = cell_first most_places _ word_lawful

  pub phases_cell : Cell (periodic_columns flags) word32 phases_in (λ p. p.1.0) (λ n p. (p.0, (n, p.1.1)))
  unfolding periodic_columns word32
  phases_cell = cell_next most_places word_lawful (cell_first most_places _ word_lawful)

  pub marks_cell : Cell (periodic_columns flags) mark pending_in (λ p. p.1.1.0) (λ b p. (p.0, (p.1.0, (b, p.1.1.1))))
  unfolding periodic_columns word32
  marks_cell = cell_next most_places word_lawful (cell_next most_places word_lawful (cell_first most_places _ mark_lawful))

  pub records_cell : Cell (periodic_columns flags) (vacant (out_cell flags)) messages_in (λ p. p.1.1.1) (λ x p. (p.0, (p.1.0, (p.1.1.0, x))))
  unfolding periodic_columns mark via such byte word32
  records_cell = cell_next most_places word_lawful (cell_next most_places word_lawful (cell_next most_places mark_lawful (cell_last record_lawful most_places)))

  pub record_size_law : (vacant (out_cell flags)).size ≡ record_size
  unfolding vacant
  record_size_law = out_size_law flags

  pub stored_long : {rs : List PeriodicRow} {i : ℕ} {row : PeriodicRow} {ys : List ℕ} → Stored (periodic_columns flags) rs i row ys → length ys ≡ periodics_size
  unfolding periodics each_via via such
  stored_long s = ap length s.is ∙ (periodic_columns_lawful flags).long _ s.ok ∙ periodics_size_law flags

-- ---- the row of a place

-- an empty place is one whose interval is 0
interval_none : (flags : ℕ) (x : Option Periodic) → T (periodic_place flags x) → (periodic_parts x).0 ≡ 0 → x ≡ none
interval_none flags none t e = refl
interval_none flags (some p) t e = absurd (omega (arith, (periodic_sound flags p t).low))

pub record Taken (x : Option Periodic) : Type 0 where
  pub one : Periodic
  pub is : x ≡ some one

interval_some : (x : Option Periodic) → ((periodic_parts x).0 ≡ 0 → ⊥) → Taken x
interval_some none n = absurd (n refl)
interval_some (some p) n = record { one = p; is = refl }

-- no timer is larger
timer_small : (flags : ℕ) (x : Option Periodic) → T (periodic_place flags x) → ((periodic_parts x).0 ≤ most_interval) × ((periodic_parts x).1.0 < 1000 * most_interval)
timer_small flags none t = (omega arith, omega arith)
timer_small flags (some p) t = let s = periodic_sound flags p t in (s.high, omega arith)

-- what is read of the periodics does not depend on the flags, as their bytes do not (`periodics_same`)
pub any_get : (j k : ℕ) (m : List ℕ) → (periodics j).get m ≡ (periodics k).get m
unfolding periodics each_via via such periodic_columns beside both many vacant out_cell
any_get j k m = refl

-- ---- what can be held at a place, and at the ten places with one changed

module _ (flags : ℕ) (ps : Slots Periodic) (t : T ((periodics flags).ok ps)) (i : ℕ) where
  pub place_ok : T (periodic_place flags (get_or ps i none))
  place_ok = all_at (periodic_place flags) ps i none (no_periodic flags) ((periodics_rows flags).each ps t)

  pub changed_ok : (f : Option Periodic → Option Periodic) → ((x : Option Periodic) → T (periodic_place flags x) → T (periodic_place flags (f x))) → T ((periodics flags).ok (changed f i ps))
  unfolding changed
  changed_ok f k = rows_set (periodics_rows flags) ps i (f (get_or ps i none)) t (k (get_or ps i none) place_ok)

-- ---- a part as it is lent

module _ (m : List ℕ) (v : PeriodicPart m) where
  abbrev pub held : Slots Periodic
  held = (periodics v.flags).get m

  sized : length m ≡ (periodics v.flags).size
  sized = v.long ∙ sym (periodics_size_law v.flags)

  pub held_ok : T ((periodics v.flags).ok held)
  held_ok = (periodics_lawful v.flags).ok_get m sized v.valid

  pub ten_held : length held ≡ most_places
  ten_held = (periodics_rows v.flags).count held held_ok

  abbrev rows : List PeriodicRow
  rows = map periodic_parts held

  rows_ok : T ((periodic_columns v.flags).ok rows)
  unfolding periodics
  rows_ok = each_ok periodic_parts periodic_back periodic_fits (periodic_columns v.flags) held held_ok

  pub part_is : m ≡ (periodics v.flags).put held
  part_is = sym ((periodics_lawful v.flags).put_get m sized v.valid)

  rows_are : m ≡ (periodic_columns v.flags).put rows
  unfolding periodics
  rows_are = part_is ∙ each_put periodic_parts periodic_back periodic_fits (periodic_columns v.flags) held

  module _ (i : ℕ) (h : i < most_places) where
    abbrev pub held_at : Option Periodic
    held_at = get_or held i none

    pub here : i < length rows
    here = omega (arith, ten_held, length-map held periodic_parts)

    row_is : get_or rows i (periodic_parts none) ≡ periodic_parts held_at
    row_is = get_or-map periodic_parts held i none

    -- what is read in a column
    bytes_at : {B : Type 0} {d : Code B} {off : ℕ} {field : PeriodicRow → B} {with : B → PeriodicRow → PeriodicRow} → Cell (periodic_columns v.flags) d off field with → Lawful d
        → (a n : ℕ) → a ≡ off + i * d.size → n ≡ d.size → take n (drop a m) ≡ d.put (field (periodic_parts held_at))
    bytes_at {d = d} {field = field} c l a n ea en = entry_is c l rows i (periodic_parts none) rows_ok here rows_are a n ea en ∙ ap (λ x. d.put (field x)) row_is

    value_at : {B : Type 0} {d : Code B} {off : ℕ} {field : PeriodicRow → B} {with : B → PeriodicRow → PeriodicRow} → Cell (periodic_columns v.flags) d off field with → Lawful d
        → (a n : ℕ) → a ≡ off + i * d.size → n ≡ d.size → d.get (take n (drop a m)) ≡ field (periodic_parts held_at)
    value_at {d = d} {field = field} c l a n ea en =
        ap d.get (bytes_at c l a n ea en) ∙ l.get_put _ (subst (λ x. T (d.ok (field x))) row_is (c.held rows i (periodic_parts none) rows_ok here))

    pub interval_at : word_at (i * number_size) m ≡ (periodic_parts held_at).0
    unfolding word32
    interval_at = sym (word_part (i * number_size) m) ∙ value_at (intervals_cell v.flags) word_lawful (i * number_size) 4 (omega arith) refl

    pub phase_at : word_at (phases_in + i * number_size) m ≡ (periodic_parts held_at).1.0
    unfolding word32
    phase_at = sym (word_part (phases_in + i * number_size) m) ∙ value_at (phases_cell v.flags) word_lawful (phases_in + i * number_size) 4 refl refl

    pub mark_at : eqb 1 (get_or m (pending_in + i) 0) ≡ (periodic_parts held_at).1.1.0
    unfolding mark via such byte
    mark_at =
        let z : pending_in + i ≡ pending_in + i + 0 = omega arith in
        ap (λ (k : ℕ). eqb 1 (get_or m k 0)) z ∙ sym (ap (eqb 1) (get_or-take 1 (drop (pending_in + i) m) 0 0 (omega arith) ∙ get_or-drop (pending_in + i) m 0 0))
        ∙ value_at (marks_cell v.flags) mark_lawful (pending_in + i) 1 (omega arith) refl

    -- the record of a periodic
    pub message_at : (p : Periodic) → held_at ≡ some p → take record_size (drop (messages_in + i * record_size) m) ≡ rec36.put p.message
    unfolding vacant out_cell such
    message_at p e =
        bytes_at (records_cell v.flags) (record_lawful v.flags) (messages_in + i * record_size) record_size (ap (λ (k : ℕ). messages_in + i * k) (sym (record_size_law v.flags))) (sym (record_size_law v.flags))
        ∙ ap (λ x. (vacant (out_cell v.flags)).put (periodic_parts x).1.1.1) e

    place_held : T (periodic_place v.flags held_at)
    place_held = place_ok v.flags held held_ok i

    pub empty_at : word_at (i * number_size) m ≡ 0 → held_at ≡ none
    empty_at e = interval_none v.flags held_at place_held (sym interval_at ∙ e)

    pub taken_at : (word_at (i * number_size) m ≡ 0 → ⊥) → Taken held_at
    taken_at n = interval_some held_at (λ e. n (interval_at ∙ e))

    pub interval_small : word_at (i * number_size) m ≤ most_interval
    interval_small = omega (arith, interval_at, (timer_small v.flags held_at place_held).0)

    pub phase_small : word_at (phases_in + i * number_size) m < 1000 * most_interval
    phase_small = omega (arith, phase_at, (timer_small v.flags held_at place_held).1)

    -- what is stored
    pub row_before : Stored (periodic_columns v.flags) rows i (periodic_parts held_at) m
    row_before = subst (λ x. Stored (periodic_columns v.flags) rows i x m) row_is (as_it_was (periodic_columns v.flags) rows i (periodic_parts none) rows_ok rows_are)

    -- a row stored in whole is the periodics with another one there
    pub row_stored : (x : Option Periodic) (flags : ℕ) {row : PeriodicRow} {ys : List ℕ} → row ≡ periodic_parts x → Stored (periodic_columns v.flags) rows i row ys
        → ys ≡ (periodics flags).put (set ((periodics flags).get m) i x)
    unfolding periodics
    row_stored x flags {ys = ys} e s =
        place_set periodic_parts periodic_back periodic_fits (periodic_columns v.flags) held (subst (λ z. Stored (periodic_columns v.flags) rows i z ys) e s)
        ∙ periodics_same v.flags flags (set held i x) ∙ ap (λ (z : Slots Periodic). (periodics flags).put (set z i x)) (any_get v.flags flags m)

    pub row_changed : (f : Option Periodic → Option Periodic) (flags : ℕ) {row : PeriodicRow} {ys : List ℕ} → row ≡ periodic_parts (f held_at) → Stored (periodic_columns v.flags) rows i row ys
        → ys ≡ (periodics flags).put (changed f i ((periodics flags).get m))
    unfolding changed
    row_changed f flags e s =
        row_stored (f held_at) flags e s
        ∙ ap (λ (z : Slots Periodic). (periodics flags).put (set ((periodics flags).get m) i (f (get_or z i none)))) (any_get v.flags flags m)

-- ---- in the region of an open channel

-- its periodics, and the part of its region that holds them
abbrev pub places_of : List ℕ → Slots Periodic
places_of r = (open_of r).sending.periodics

abbrev pub part_of : List ℕ → List ℕ
part_of r = take periodics_size (drop periodics_at r)

-- the region with other periodics
abbrev pub with_places : List ℕ → Slots Periodic → Chan
with_places r ps = with_sending (open_of r) ps (open_of r).sending.written (open_of r).sending.flight

module _ (r : List ℕ) (o : Opened r) where
  -- the part can be lent, and what it holds is the channel's periodics
  abbrev pub lent : PeriodicPart (part_of r)
  lent = record { flags = fl (open_of r); long = (periodics_part r o).long; valid = (periodics_part r o).valid }

  pub lent_held : (periodics (fl (open_of r))).get (part_of r) ≡ places_of r
  lent_held = (periodics_part r o).got

  -- and the region with other periodics in it
  pub lent_back : (f : Slots Periodic → Slots Periodic) (ys : List ℕ) → ((flags : ℕ) → ys ≡ (periodics flags).put (f ((periodics flags).get (part_of r))))
      → put_mid periodics_at periodics_size r ys ≡ region.put (with_places r (f (places_of r)))
  lent_back f ys e = (periodics_part r o).becomes ys _ (e (fl (open_of r)) ∙ ap (λ (ps : Slots Periodic). (periodics (fl (open_of r))).put (f ps)) lent_held)
