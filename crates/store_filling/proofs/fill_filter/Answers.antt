-- `store_filling::fill_filter` meets its contract. Assumes nothing.
use Prim.Native.Nat.{ℕ, ◌+◌, ◌-◌}
use mathlib.Core.Path.{◌≡◌, refl, ap, ◌∙◌}
use mathlib.Core.Option.{some}
use native.Mathlib.Omega.{arith}
use lib.ListN.{set}
use Rattle.machine.specs.Limits.{record_size}
use Rattle.machine.specs.Filter.{Filter}
use Rattle.machine.specs.Channel.{blank}
use Rattle.layout.specs.Memory.{filters}
use Rattle.layout.proofs.Sizes.{filters_size_law}
use Rattle.filtercheck.proofs.Laws.{checked}
use Rattle.store_filling.proofs.Entries.{FilterRead, filter_read}
use Rattle.store_filling.proofs.fill_filter.Goals as goal
use Rattle.store_filling.proofs.fill_filter.Goals.{After-number_there-kind}

-- what reads there, from the type and the place that were found on
here : (c : goal.After-number_there-kind) (j l : ℕ) → j ≡ record_size → l ≡ record_size → FilterRead c.requires.0.entry.flags c.args.store.now c.number_there-kind.result.value c.number_there-kind.result.next j l c.requires.0.entry.what c.requires.0.entry.next
here c j l ej el =
    let e = c.requires.0.entry in
    filter_read e.flags c.args.store.now c.args.at e.what e.next e.read c.number_there-kind.result.value c.number_there-kind.result.next j l c.number_there-kind.ensures ej el

wide : (a : ℕ) → a + record_size - a ≡ record_size
wide a = omega arith

pub overflow_add-b : goal.overflow_add-b
overflow_add-b c = omega (arith, (here c record_size record_size refl refl).inside)

pub overflow_add-c : goal.overflow_add-c
overflow_add-c c = omega (arith, (here c record_size record_size refl refl).inside)

pub slice_bounds-put_filter-end : goal.slice_bounds-put_filter-end
slice_bounds-put_filter-end c = omega (arith, (here (goal.at.slice_bounds-put_filter-end c).After-number_there-kind record_size record_size refl refl).inside)

pub slice_bounds-put_filter-end-2 : goal.slice_bounds-put_filter-end-2
slice_bounds-put_filter-end-2 c = omega (arith, (here (goal.at.slice_bounds-put_filter-end-2 c).After-number_there-kind record_size record_size refl refl).inside)

pub put_filter-requires : goal.put_filter-requires
put_filter-requires c =
    let room = c.requires.0 in
    let k = room.entry.flags in
    let a = c.number_there-kind.result.next in (
      record { flags = k; long = room.long ∙ filters_size_law k; valid = room.valid },
      c.requires.1,
      checked (blank k 0) c.number_there-kind.result.value _ _ (here (goal.at.put_filter-requires c).After-number_there-kind _ _ (wide a) (wide (a + record_size))).code,
    )

pub returns : goal.returns
returns c =
    let a = c.number_there-kind.result.next in
    λ flags f next e.
    let q = filter_read flags c.args.store.now c.args.at f next e c.number_there-kind.result.value a _ _ c.number_there-kind.ensures (wide a) (wide (a + record_size)) in (
      q.ends,
      c.put_filter.ensures flags ∙ ap (λ (x : Filter). (filters flags).put (set ((filters flags).get c.args.part.now) c.args.i (some x))) q.is,
    )
