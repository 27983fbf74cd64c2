-- `log_events::put_advances` meets its contract. The invariant: so many full advances were written. Assumes nothing.
use native.Mathlib.Omega.{arith}
use Rattle.answers.proofs.Put.{put_length}
use Rattle.log_events.proofs.Putting.{none_filled, full_fits, one_filled, without_rest, rest_fits, with_rest}
use Rattle.log_events.proofs.put_advances.Goals as goal

pub loop-k-init : goal.loop-k-init
loop-k-init c = none_filled _ _ _ c.requires

pub put_pair-place-requires : goal.put_pair-place-requires
put_pair-place-requires c =
    full_fits _ _ _ c.requires _ _ _ c.loop-k.invariant c.loop-k-test.true

pub loop-k-preserved : goal.loop-k-preserved
loop-k-preserved c =
    one_filled _ _ _ c.requires _ _ _ c.loop-k.invariant c.loop-k-test.true _ _ c.put_pair-place.ensures

pub shape_of-out-then-rest-lt1 : goal.shape_of-out-then-rest-lt1
shape_of-out-then-rest-lt1 c = c.loop-k.invariant.same_length

pub returns-then-rest-lt1 : goal.returns-then-rest-lt1
returns-then-rest-lt1 c = without_rest _ _ _ c.requires _ _ _ c.loop-k.invariant c.loop-k-test.false c.if-rest-lt1.true

pub put_pair-requires : goal.put_pair-requires
put_pair-requires c =
    rest_fits _ _ _ c.requires _ _ _ c.loop-k.invariant c.loop-k-test.false c.if-rest-lt1.false

pub shape_of-out : goal.shape_of-out
shape_of-out c =
    omega (
      arith,
      c.loop-k.invariant.same_length,
      put_length c.put_pair.ensures
          (rest_fits _ _ _ c.requires _ _ _ c.loop-k.invariant c.loop-k-test.false c.if-rest-lt1.false),
    )

pub returns : goal.returns
returns c =
    with_rest _ _ _ c.requires _ _ _ c.loop-k.invariant c.loop-k-test.false c.if-rest-lt1.false _ _ c.put_pair.ensures
