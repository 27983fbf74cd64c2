-- `iso_giving::start` meets its contract: the first, else the second. Assumes nothing.
use native.Mathlib.Omega.{arith}
use Rattle.iso_giving.specs.Giving.{starts}
use Rattle.iso_giving.proofs.Lowest.{still_open, still_startable, still_segmented, first_there, second_there}
use Rattle.iso_giving.proofs.start.Goals as goal

pub returns-then-start_at : goal.returns-then-start_at
returns-then-start_at c m s = first_there c.args.r.now c.requires.0 (starts m) _ _ c.if-start_at.true (c.start_at.ensures m s)

pub start_at-requires-2 : goal.start_at-requires-2
start_at-requires-2 c =
    let s = c.requires.3 in
    let none = c.start_at.ensures s.message s.is in (
      still_open c.args.r.now c.requires.0 (starts s.message) _ _ c.if-start_at.false none,
      omega arith,
      c.requires.1,
      c.requires.2,
      still_startable c.args.r.now c.requires.0 (starts s.message) _ _ c.if-start_at.false none s,
    )

pub returns : goal.returns
returns c m s =
    let none = c.start_at.ensures m s in
    second_there c.args.r.now c.requires.0 (starts m) _ _ c.if-start_at.false none _ _ (c.start_at-2.ensures m (still_segmented c.args.r.now c.requires.0 (starts m) _ _ c.if-start_at.false none m s))
