-- `answers::put_number` meets its contract. The invariant says which groups were written; what is left of the number falls. Assumes nothing.
use native.Mathlib.Omega.{arith}
use borrow.Author.Rules.{rules}
use lib.ListN.{length-set}
use Rattle.answers.proofs.Number.{nothing_yet, has_room, one_more, last_one}
use Rattle.answers.proofs.put_number.Goals as goal

pub loop-rest-init : goal.loop-rest-init
loop-rest-init c = nothing_yet c.args.out.now c.args.at c.args.value (search rules)

pub bounds-out-place : goal.bounds-out-place
bounds-out-place c = has_room c.loop-rest.invariant c.requires

pub overflow_add-place : goal.overflow_add-place
overflow_add-place c = omega (arith, has_room c.loop-rest.invariant c.requires, c.loop-rest.invariant.same_length)

pub loop-rest-preserved : goal.loop-rest-preserved
loop-rest-preserved c = one_more c.loop-rest.invariant c.loop-rest-test.true

pub bounds-out-place-2 : goal.bounds-out-place-2
bounds-out-place-2 c = has_room c.loop-rest.invariant c.requires

pub overflow_add-result : goal.overflow_add-result
overflow_add-result c = omega (arith, has_room c.loop-rest.invariant c.requires, c.loop-rest.invariant.same_length)

pub shape_of-out : goal.shape_of-out
shape_of-out c = simp length-set c.loop-rest.invariant.same_length

pub returns : goal.returns
returns c = last_one c.loop-rest.invariant (search rules) c.requires
