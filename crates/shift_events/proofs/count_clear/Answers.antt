-- `shift_events::count_clear` meets its contract. Assumes nothing.
use Rattle.shift_events.proofs.Counting.{counts_clear, other_clear_counts}
use Rattle.shift_events.proofs.count_clear.Goals as goal

pub returns-then-kind-ne-CLEAR_RX : goal.returns-then-kind-ne-CLEAR_RX
returns-then-kind-ne-CLEAR_RX c rates =
    other_clear_counts c.args.mem.now c.requires.0 rates c.args.numbers.now c.requires.1 c.args.channel c.args.kind c.if-kind-ne-CLEAR_RX.true

pub returns : goal.returns
returns c rates =
    counts_clear c.args.mem.now c.requires.0 rates c.args.numbers.now _ c.args.channel c.args.kind c.if-kind-ne-CLEAR_RX.false c.count_held.ensures
