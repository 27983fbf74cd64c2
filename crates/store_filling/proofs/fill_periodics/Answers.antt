-- `store_filling::fill_periodics` meets its contract. The invariant: what is left and what was written are together the entries. Assumes nothing.
use Prim.Native.Nat.{suc, ◌-◌, ◌+◌}
use mathlib.Core.Path.{◌≡◌, refl}
use Rattle.machine.specs.Channel.{periodic_in, starts_anew}
use native.Mathlib.Omega.{arith}
use borrow.Author.Rules.{rules}
use Rattle.layout.specs.Sizes.{periodics_size}
use Rattle.layout.specs.Memory.{periodics}
use Rattle.store_filling.proofs.Walk.{walk_starts, walk_ends, turn_room, turn_number, turn_walks}
use Rattle.store_filling.proofs.TwoLists.{periodics_kept}
use Rattle.store_filling.proofs.fill_periodics.Goals as goal

pub loop-init : goal.loop-init
loop-init c = (walk_starts periodic_in starts_anew periodics periodics_size periodics_kept c.args.store.now c.args.at c.args.n c.args.part.now _ (omega arith) c.requires.1, refl)

pub overflow_sub-number : goal.overflow_sub-number
overflow_sub-number c =
    let at = c.loop in
    let one : c.args.n - c.loop.counter ≡ suc (c.args.n - (c.loop.counter + 1)) = omega (arith, c.loop-test.true) in
    let k = turn_number periodic_in starts_anew periodics periodics_size periodics_kept c.args.store.now c.args.at c.args.n at.part at.next (c.args.n - at.counter) (c.args.n - (at.counter + 1)) one at.invariant.0 c.number_there-number.result.value c.number_there-number.result.next c.number_there-number.ensures c.requires.0 in
    k.0

pub fill_periodic-next-requires : goal.fill_periodic-next-requires
fill_periodic-next-requires c =
    let at = c.loop in
    let one : c.args.n - c.loop.counter ≡ suc (c.args.n - (c.loop.counter + 1)) = omega (arith, c.loop-test.true) in
    let k = turn_number periodic_in starts_anew periodics periodics_size periodics_kept c.args.store.now c.args.at c.args.n at.part at.next (c.args.n - at.counter) (c.args.n - (at.counter + 1)) one at.invariant.0 c.number_there-number.result.value c.number_there-number.result.next c.number_there-number.ensures c.requires.0 in
    (turn_room periodic_in starts_anew periodics periodics_size periodics_kept c.args.store.now c.args.at c.args.n at.part at.next (c.args.n - at.counter) (c.args.n - (at.counter + 1)) one at.invariant.0 c.number_there-number.result.value c.number_there-number.result.next c.number_there-number.ensures c.requires.0, omega (arith, k.0, k.1))

pub loop-preserved : goal.loop-preserved
loop-preserved c =
    let put = c.fill_periodic-next in
    let at = c.loop in
    let one : c.args.n - c.loop.counter ≡ suc (c.args.n - (c.loop.counter + 1)) = omega (arith, c.loop-test.true) in
    let w = turn_walks periodic_in starts_anew periodics periodics_size periodics_kept c.args.store.now c.args.at c.args.n at.part at.next (c.args.n - at.counter) (c.args.n - (at.counter + 1)) one at.invariant.0 c.number_there-number.result.value c.number_there-number.result.next c.number_there-number.ensures (λ i. (c.type_inv.store i).fits) put.result put.new.part put.ensures in
    (w, search rules)

pub shape_of-part : goal.shape_of-part
shape_of-part c = c.loop.invariant.1

pub returns : goal.returns
returns c =
    let at = c.loop in
    walk_ends periodic_in starts_anew periodics periodics_size periodics_kept c.args.store.now c.args.at c.args.n at.part at.next (c.args.n - at.counter) (omega (arith, c.loop-test.false)) at.invariant.0
