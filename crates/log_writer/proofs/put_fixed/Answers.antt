-- `log_writer::put_fixed` meets its contract. The invariant: the digits behind a place were written. Assumes nothing.
use Prim.Native.Nat.{ℕ, ◌+◌, ◌-◌, ◌/◌, ◌<◌}
use mathlib.Core.Path.{sym, subst}
use native.Mathlib.Omega.{arith}
use lib.ListN.{length, set}
use Rattle.log_writer.proofs.Digits.{Begun, none_begun, digit_small, digit_fits, one_more, all_digits}
use Rattle.log_writer.proofs.put_fixed.Goals as goal

pub loop-k-init : goal.loop-k-init
loop-k-init c = none_begun _ _ _ _ _

pub digit_of-requires : goal.digit_of-requires
digit_of-requires c = digit_small c.loop-k.invariant c.requires.0 c.requires.1

pub loop-k-preserved : goal.loop-k-preserved
loop-k-preserved c =
    subst (λ (d : ℕ). Begun c.args.out.now c.args.at c.args.base c.args.count c.args.value (set c.loop-k.out (c.args.at + (c.loop-k.k - 1)) d) (c.loop-k.rest / c.args.base) (c.loop-k.k - 1))
    (sym c.digit_of.ensures)
    (one_more c.loop-k.invariant c.loop-k-test.true)

pub shape_of-out : goal.shape_of-out
shape_of-out c = c.loop-k.invariant.same_length

pub returns : goal.returns
returns c = all_digits c.loop-k.invariant c.loop-k-test.false c.requires.2

pub nonzero_rem-rest : goal.nonzero_rem-rest
nonzero_rem-rest c = omega arith

pub overflow_add-out : goal.overflow_add-out
overflow_add-out c = omega (arith, digit_fits c.loop-k.invariant c.loop-k-test.true c.requires.2, c.loop-k.invariant.same_length)

pub bounds-out-at : goal.bounds-out-at
bounds-out-at c = digit_fits c.loop-k.invariant c.loop-k-test.true c.requires.2

pub nonzero_div-rest : goal.nonzero_div-rest
nonzero_div-rest c = omega arith
