-- `link_ending::end` meets its contract: the end, state by state. Assumes nothing.
use Rattle.link_ending.proofs.Ends.{opening_ends, connecting_ends, free_ends, busy_ends, same_ends}
use Rattle.link_ending.proofs.end.Goals as goal

pub returns-then-part-eq1 : goal.returns-then-part-eq1
returns-then-part-eq1 c =
    opening_ends c.args.part.now c.requires c.if-part-eq1.true _ c.zero.ensures

pub returns-then-part-eq2 : goal.returns-then-part-eq2
returns-then-part-eq2 c =
    connecting_ends c.args.part.now c.requires c.if-part-eq2.true _ c.leave.ensures

pub returns-then-part-eq0 : goal.returns-then-part-eq0
returns-then-part-eq0 c =
    free_ends c.args.part.now c.requires c.if-part-eq3.true c.if-part-eq0.true _ c.word_at-left.ensures.0 _ c.leave-then-part-eq0.ensures

pub returns-else-part-eq0 : goal.returns-else-part-eq0
returns-else-part-eq0 c =
    busy_ends c.args.part.now c.requires c.if-part-eq3.true c.if-part-eq0.false _ c.wide-pace.ensures.0 _ c.leave-then-part-eq3.ensures

pub returns-else-part-eq3 : goal.returns-else-part-eq3
returns-else-part-eq3 c =
    same_ends c.args.part.now c.requires c.if-part-eq1.false c.if-part-eq2.false c.if-part-eq3.false
