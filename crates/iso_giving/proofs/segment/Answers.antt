-- `iso_giving::segment` meets its contract: the first, else the second. Assumes nothing.
use native.Mathlib.Omega.{arith}
use Rattle.iso_giving.specs.Giving.{segments}
use Rattle.iso_giving.proofs.Lowest.{still_open, first_there, second_there}
use Rattle.iso_giving.proofs.segment.Goals as goal

pub returns-then-segment_at : goal.returns-then-segment_at
returns-then-segment_at c = first_there c.args.r.now c.requires segments _ _ c.if-segment_at.true c.segment_at.ensures

pub segment_at-requires-2 : goal.segment_at-requires-2
segment_at-requires-2 c =
    (still_open c.args.r.now c.requires segments _ _ c.if-segment_at.false c.segment_at.ensures, omega arith)

pub returns : goal.returns
returns c =
    second_there c.args.r.now c.requires segments _ _ c.if-segment_at.false c.segment_at.ensures _ _ c.segment_at-2.ensures
