-- `reading::read_in` meets its contract: short, none asked for, or the oldest given out. Assumes nothing.
use native.Mathlib.Omega.{arith}
use Rattle.layout.proofs.Region.{open_of, receiving_part_law}
use Rattle.queue.proofs.Laws.{part_lent}
use Rattle.reading.proofs.Laws.{held_part, read_short, read_none, read_some}
use Rattle.reading.proofs.read_in.Goals as goal

pub returns-then-buf-n : goal.returns-then-buf-n
returns-then-buf-n c = λ rates t. read_short c.args.r.now c.requires rates t c.args.n c.args.buf.now c.if-buf-n.true

pub returns-then-n-eq0 : goal.returns-then-n-eq0
returns-then-n-eq0 c = λ rates t. read_none c.args.r.now c.requires rates t c.args.n c.args.buf.now c.if-buf-n.false c.if-n-eq0.true

pub give-moved-requires : goal.give-moved-requires
give-moved-requires c = (held_part c.args.r.now c.requires, c.if-buf-n.false)

pub drop_oldest-requires : goal.drop_oldest-requires
drop_oldest-requires c = part_lent c.args.r.now c.requires _ (omega (arith, c.give-moved.ensures.count_is))

pub returns : goal.returns
returns c =
    let r = c.args.r.now in
    λ rates t. read_some r c.requires rates t c.args.n c.args.buf.now c.if-buf-n.false c.if-n-eq0.false c.give-moved.ensures
    (c.drop_oldest.ensures (open_of r).config.flags (receiving_part_law r c.requires).valid)
