-- `configuring::get` meets its contract. Assumes nothing.
use Rattle.configuring.proofs.Laws.{get_rate, get_mark, get_unknown}
use Rattle.configuring.proofs.get.Goals as goal

pub returns-then-parameter-eq1 : goal.returns-then-parameter-eq1
returns-then-parameter-eq1 c = get_rate c.args.c.now c.requires _ _ c.if-parameter-eq1.true c.word_at.ensures.0

pub returns-then-parameter-eq3 : goal.returns-then-parameter-eq3
returns-then-parameter-eq3 c = get_mark c.args.c.now c.requires _ _ c.if-parameter-eq3.true c.wide.ensures.0

pub returns : goal.returns
returns c = get_unknown c.args.c.now c.requires _ c.if-parameter-eq1.false c.if-parameter-eq3.false
