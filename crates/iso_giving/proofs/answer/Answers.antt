-- `iso_giving::answer` meets its contract: the first, else the second. Assumes nothing.
use native.Mathlib.Omega.{arith}
use Rattle.iso_giving.specs.Giving.{answers}
use Rattle.iso_giving.proofs.Lowest.{still_open, first_there, second_there}
use Rattle.iso_giving.proofs.answer.Goals as goal

pub returns-then-answer_at : goal.returns-then-answer_at
returns-then-answer_at c = first_there c.args.r.now c.requires answers _ _ c.if-answer_at.true c.answer_at.ensures

pub answer_at-requires-2 : goal.answer_at-requires-2
answer_at-requires-2 c =
    (still_open c.args.r.now c.requires answers _ _ c.if-answer_at.false c.answer_at.ensures, omega arith)

pub returns : goal.returns
returns c =
    second_there c.args.r.now c.requires answers _ _ c.if-answer_at.false c.answer_at.ensures _ _ c.answer_at-2.ensures
