-- `store_filling::fill_filters` meets its contract. The invariant: what is left and what was written are together the entries. Assumes nothing.
use Prim.Native.Nat.{suc, ◌-◌, ◌+◌}
use mathlib.Core.Path.{◌≡◌, refl, ap, ◌∙◌}
use mathlib.Core.List.{map-id}
use Rattle.machine.specs.Channel.{filter_in}
use Rattle.machine.specs.Filter.{Slots, Filter}
use native.Mathlib.Omega.{arith}
use borrow.Author.Rules.{rules}
use Rattle.layout.specs.Sizes.{filters_size}
use Rattle.layout.specs.Memory.{filters}
use Rattle.store_filling.proofs.Walk.{walk_starts, walk_ends, turn_room, turn_number, turn_walks}
use Rattle.store_filling.proofs.TwoLists.{filters_kept}
use Rattle.store_filling.proofs.fill_filters.Goals as goal

pub loop-init : goal.loop-init
loop-init c = (walk_starts filter_in (λ x. x) filters filters_size filters_kept c.args.store.now c.args.at c.args.n c.args.part.now _ (omega arith) c.requires.1, refl)

pub overflow_sub-number : goal.overflow_sub-number
overflow_sub-number c =
    let at = c.loop in
    let one : c.args.n - c.loop.counter ≡ suc (c.args.n - (c.loop.counter + 1)) = omega (arith, c.loop-test.true) in
    let k = turn_number filter_in (λ x. x) filters filters_size filters_kept c.args.store.now c.args.at c.args.n at.part at.next (c.args.n - at.counter) (c.args.n - (at.counter + 1)) one at.invariant.0 c.number_there-number.result.value c.number_there-number.result.next c.number_there-number.ensures c.requires.0 in
    k.0

pub fill_filter-next-requires : goal.fill_filter-next-requires
fill_filter-next-requires c =
    let at = c.loop in
    let one : c.args.n - c.loop.counter ≡ suc (c.args.n - (c.loop.counter + 1)) = omega (arith, c.loop-test.true) in
    let k = turn_number filter_in (λ x. x) filters filters_size filters_kept c.args.store.now c.args.at c.args.n at.part at.next (c.args.n - at.counter) (c.args.n - (at.counter + 1)) one at.invariant.0 c.number_there-number.result.value c.number_there-number.result.next c.number_there-number.ensures c.requires.0 in
    (turn_room filter_in (λ x. x) filters filters_size filters_kept c.args.store.now c.args.at c.args.n at.part at.next (c.args.n - at.counter) (c.args.n - (at.counter + 1)) one at.invariant.0 c.number_there-number.result.value c.number_there-number.result.next c.number_there-number.ensures c.requires.0, omega (arith, k.0, k.1))

pub loop-preserved : goal.loop-preserved
loop-preserved c =
    let put = c.fill_filter-next in
    let at = c.loop in
    let one : c.args.n - c.loop.counter ≡ suc (c.args.n - (c.loop.counter + 1)) = omega (arith, c.loop-test.true) in
    let w = turn_walks filter_in (λ x. x) filters filters_size filters_kept c.args.store.now c.args.at c.args.n at.part at.next (c.args.n - at.counter) (c.args.n - (at.counter + 1)) one at.invariant.0 c.number_there-number.result.value c.number_there-number.result.next c.number_there-number.ensures (λ i. (c.type_inv.store i).fits) put.result put.new.part put.ensures in
    (w, search rules)

pub shape_of-part : goal.shape_of-part
shape_of-part c = c.loop.invariant.1

pub returns : goal.returns
returns c =
    let at = c.loop in
    let w = walk_ends filter_in (λ x. x) filters filters_size filters_kept c.args.store.now c.args.at c.args.n at.part at.next (c.args.n - at.counter) (omega (arith, c.loop-test.false)) at.invariant.0 in
    λ flags es next e. let r = w flags es next e in (r.0, r.1 ∙ ap (λ (x : Slots Filter). (filters flags).put x) (map-id _))
