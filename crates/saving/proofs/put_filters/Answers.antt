-- `saving::put_filters` meets its contract. The invariant: the entries of the places before i are written, and those from i on are left. Assumes nothing.
use Prim.Native.Nat.{ℕ, ◌+◌, ◌≤◌}
use native.Mathlib.Omega.{arith}
use mathlib.Core.Path.{◌≡◌, ◌∙◌}
use mathlib.Core.List.{List, ◌++◌}
use lib.ListN.{length}
use borrow.Author.Rules.{rules}
use Rattle.number.specs.Number.{bytes_of}
use Rattle.number.specs.Place.{Written}
use Rattle.machine.specs.Store.{slots_bytes, filter_bytes}
use Rattle.answers.proofs.Put.{put_number}
use Rattle.store_sizes.specs.Entries.{entries_from, taken_from, filters_of}
use Rattle.store_sizes.proofs.Filters.{ten_filters}
use Rattle.saving.specs.Entry.{entry_at}
use Rattle.saving.proofs.Going.{Going, going_from, going_on, going_last, going_long, next_fits, rest_fits}
use Rattle.saving.proofs.Entries.{slots_from, place_next, places_done}
use Rattle.saving.proofs.put_filters.Goals as goal

module _ (part out : List ℕ) (at : ℕ) (room : at + length (slots_bytes filter_bytes (filters_of part)) ≤ length out) {k : ℕ} (e : k ≡ taken_from 0 (filters_of part)) where
  begun : Going out at (slots_bytes filter_bytes (filters_of part)) (bytes_of k ++ entries_from filter_bytes 0 (filters_of part)) at out
  begun = slots_from filter_bytes (filters_of part) out at k e room

  -- the count is written
  counted : {n : ℕ} {after : List ℕ} → Written out at k n after → Going out at (slots_bytes filter_bytes (filters_of part)) (entries_from filter_bytes 0 (filters_of part)) n after
  counted w = going_on (bytes_of k) _ begun (put_number _ _ _ _ _ w)

pub filter_count-count-requires : goal.filter_count-count-requires
filter_count-count-requires c = c.requires.0

pub put_number-next-requires : goal.put_number-next-requires
put_number-next-requires c = next_fits (bytes_of c.filter_count-count.result) _ (begun c.args.part.now c.args.out.now c.args.at c.requires.1 c.filter_count-count.ensures)

pub loop-i-init : goal.loop-i-init
loop-i-init c =
    (omega arith, going_from _ _ _ (rest_fits (counted c.args.part.now c.args.out.now c.args.at c.requires.1 c.filter_count-count.ensures c.put_number-next.ensures)))

pub put_filter-next-requires : goal.put_filter-next-requires
put_filter-next-requires c =
    let h = c.loop-i in
    let held = filters_of c.args.part.now in
    let ten = ten_filters c.args.part.now c.requires.0 in
    (c.requires.0, search rules, next_fits (entry_at filter_bytes held h.i) _ (place_next filter_bytes held ten h.i h.invariant.1 (search rules)))

pub loop-i-preserved : goal.loop-i-preserved
loop-i-preserved c =
    let h = c.loop-i in
    let held = filters_of c.args.part.now in
    let ten = ten_filters c.args.part.now c.requires.0 in
    (search rules, going_on (entry_at filter_bytes held h.i) _ (place_next filter_bytes held ten h.i h.invariant.1 (search rules)) c.put_filter-next.ensures)

pub shape_of-out : goal.shape_of-out
shape_of-out c =
    going_long c.loop-i.invariant.1 ∙ going_long (counted c.args.part.now c.args.out.now c.args.at c.requires.1 c.filter_count-count.ensures c.put_number-next.ensures)

pub returns : goal.returns
returns c =
    let h = c.loop-i in
    let held = filters_of c.args.part.now in
    let ten = ten_filters c.args.part.now c.requires.0 in
    going_last (counted c.args.part.now c.args.out.now c.args.at c.requires.1 c.filter_count-count.ensures c.put_number-next.ensures)
    (places_done filter_bytes held ten h.i h.invariant.1 (search rules))
