-- `saving::put_periodic` meets its contract. Assumes nothing.
use Prim.Native.Nat.{ℕ, ◌+◌, ◌-◌, ◌≤◌, ◌<◌}
use native.Mathlib.Omega.{arith}
use mathlib.Core.Path.{◌≡◌, sym, ◌∙◌}
use mathlib.Core.List.{List, ◌++◌}
use lib.ListN.{length}
use borrow.Rule.Slice.PartMut.{put_mid}
use Rattle.number.specs.Number.{bytes_of}
use Rattle.number.specs.Place.{Written}
use Rattle.machine.specs.Limits.{most_places, record_size}
use Rattle.machine.specs.Store.{periodic_bytes}
use Rattle.stores.specs.Periodics.{PeriodicPart}
use Rattle.answers.proofs.Put.{put_number}
use Rattle.store_sizes.specs.Entries.{periodics_of}
use Rattle.store_sizes.proofs.Periodics.{interval_in}
use Rattle.saving.specs.Entry.{entry_at}
use Rattle.saving.proofs.Going.{put_over, Going, going_on, going_last, going_long, next_fits, rest_fits}
use Rattle.saving.proofs.Entries.{lent_record, record_long, periodic_empty, periodic_from}
use Rattle.saving.proofs.put_periodic.Goals as goal

module _ (part : List ℕ) (i : ℕ) where
  abbrev whole : List ℕ
  whole = entry_at periodic_bytes (periodics_of part) i

  module _ (v : PeriodicPart part) (h : i < most_places) (out : List ℕ) (at : ℕ) (room : at + length whole ≤ length out) {k : ℕ} (e : k ≡ interval_in part i) (n : k ≡ 0 → ⊥) where
    begun : Going out at whole (bytes_of (i + 1) ++ (lent_record part i ++ bytes_of k)) at out
    begun = periodic_from part v i h out at k e n room

    -- the number is written
    module _ {n₁ : ℕ} {out₁ : List ℕ} (w₁ : Written out at (i + 1) n₁ out₁) where
      named : Going out at whole (lent_record part i ++ bytes_of k) n₁ out₁
      named = going_on (bytes_of (i + 1)) _ begun (put_number _ _ _ _ _ w₁)

      long : length (lent_record part i) ≡ record_size
      long = record_long part v i h

      record_fits : n₁ + record_size ≤ length out₁
      record_fits = omega (arith, next_fits (lent_record part i) _ named, long)

      -- and the record
      copied : (d : List ℕ) → d ≡ lent_record part i → Going out at whole (bytes_of k) (n₁ + record_size) (put_mid n₁ (n₁ + record_size - n₁) out₁ d)
      copied d same = going_on (lent_record part i) _ named (put_over out₁ d (lent_record part i) n₁ (n₁ + record_size - n₁) (n₁ + record_size) (omega (arith, long)) (omega (arith, long)) same)

pub returns-then-interval-eq0 : goal.returns-then-interval-eq0
returns-then-interval-eq0 c =
    periodic_empty c.args.part.now c.requires.0 c.args.i c.requires.1 c.args.out.now c.args.at (sym c.word_at-interval.ensures.0 ∙ c.if-interval-eq0.true)

pub put_number-named-requires : goal.put_number-named-requires
put_number-named-requires c =
    next_fits (bytes_of (c.args.i + 1)) _ (begun c.args.part.now c.args.i c.requires.0 c.requires.1 c.args.out.now c.args.at c.requires.2 c.word_at-interval.ensures.0 c.if-interval-eq0.false)

pub overflow_add-end : goal.overflow_add-end
overflow_add-end c =
    let room = record_fits c.args.part.now c.args.i c.requires.0 c.requires.1 c.args.out.now c.args.at c.requires.2 c.word_at-interval.ensures.0 c.if-interval-eq0.false c.put_number-named.ensures in
    let long = going_long (named c.args.part.now c.args.i c.requires.0 c.requires.1 c.args.out.now c.args.at c.requires.2 c.word_at-interval.ensures.0 c.if-interval-eq0.false c.put_number-named.ensures) in
    record { fits = omega (arith, room, long) }

pub slice_bounds-copy-end : goal.slice_bounds-copy-end
slice_bounds-copy-end c = record_fits c.args.part.now c.args.i c.requires.0 c.requires.1 c.args.out.now c.args.at c.requires.2 c.word_at-interval.ensures.0 c.if-interval-eq0.false c.put_number-named.ensures

pub put_number-requires : goal.put_number-requires
put_number-requires c =
    rest_fits (copied c.args.part.now c.args.i c.requires.0 c.requires.1 c.args.out.now c.args.at c.requires.2 c.word_at-interval.ensures.0 c.if-interval-eq0.false c.put_number-named.ensures c.copy.new.d c.copy.ensures)

pub returns : goal.returns
returns c =
    going_last
    (copied c.args.part.now c.args.i c.requires.0 c.requires.1 c.args.out.now c.args.at c.requires.2 c.word_at-interval.ensures.0 c.if-interval-eq0.false c.put_number-named.ensures c.copy.new.d c.copy.ensures)
    (put_number _ _ _ _ _ c.put_number.ensures)
