-- `store_filling::fill_periodic` meets its contract. Assumes nothing.
use Prim.Native.Nat.{ℕ, ◌+◌, ◌-◌, ◌≤◌}
use mathlib.Core.Path.{◌≡◌, ap, ◌∙◌}
use mathlib.Core.Option.{some}
use native.Mathlib.Omega.{arith}
use lib.ListN.{length, set, take, drop, length-drop}
use lib.Seq.{length-take-le}
use Rattle.machine.specs.Limits.{record_size}
use Rattle.machine.specs.Message.{Rec}
use Rattle.machine.specs.Channel.{starts_anew, periodic_of}
use Rattle.layout.specs.Memory.{periodics}
use Rattle.layout.proofs.Sizes.{periodics_size_law}
use Rattle.store_filling.proofs.Entries.{periodic_inside, periodic_read}
use Rattle.store_filling.proofs.fill_periodic.Goals as goal
use Rattle.store_filling.proofs.fill_periodic.Goals.{After-shared_slice_known-1}

-- its record is there
inside : (c : goal.After-shared_slice_known-1) → c.args.at + record_size ≤ length c.args.store.now
inside c =
    let e = c.requires.0.entry in
    periodic_inside e.flags c.args.store.now c.args.at e.what e.next e.read

wide : (a : ℕ) → a + record_size - a ≡ record_size
wide a = omega arith

pub overflow_add-b : goal.overflow_add-b
overflow_add-b c = omega (arith, inside c)

pub slice_bounds-start_at-end : goal.slice_bounds-start_at-end
slice_bounds-start_at-end c = omega (arith, inside (goal.at.slice_bounds-start_at-end c).After-shared_slice_known-1)

pub start_at-requires : goal.start_at-requires
start_at-requires c =
    let room = c.requires.0 in
    let k = room.entry.flags in
    let a = c.args.at in
    let store = c.args.store.now in
    let h : a + record_size ≤ length store = inside (goal.at.start_at-requires c).After-shared_slice_known-1 in
    let q = periodic_read k store a room.entry.what room.entry.next room.entry.read (a + record_size - a) c.number_there-interval.result.value c.number_there-interval.result.next c.number_there-interval.ensures (wide a) in
    let long : length (take (a + record_size - a) (drop a store)) ≡ a + record_size - a = length-take-le (a + record_size - a) (drop a store) (omega (arith, length-drop a store)) in
    (record { part = record { flags = k; long = room.long ∙ periodics_size_law k; valid = room.valid }; long = omega arith; good = q.good; speaks = q.speaks }, c.requires.1)

pub returns : goal.returns
unfolding starts_anew periodic_of
returns c =
    let a = c.args.at in
    λ flags p next e.
    let q = periodic_read flags c.args.store.now a p next e _ c.number_there-interval.result.value c.number_there-interval.result.next c.number_there-interval.ensures (wide a) in (
      q.ends,
      c.start_at.ensures flags ∙ ap (λ (x : Rec × ℕ). (periodics flags).put (set ((periodics flags).get c.args.part.now) c.args.i (starts_anew (some x)))) q.is,
    )
