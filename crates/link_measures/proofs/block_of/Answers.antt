-- `link_measures::block_of` meets its contract: the smaller of the two. Assumes nothing.
use native.Mathlib.Omega.{arith}
use Rattle.link_measures.proofs.Laws.{whole_block, last_block}
use Rattle.link_measures.proofs.block_of.Goals as goal

pub returns-then-size-all : goal.returns-then-size-all
returns-then-size-all c =
    let args = c.args in
    let all = c.telegrams-all in
    ((λ rest e. whole_block args.size all.result rest (all.ensures.0 rest e) (omega arith)), omega arith)

pub returns : goal.returns
returns c =
    let args = c.args in
    let all = c.telegrams-all in
    ((λ rest e. last_block args.size all.result rest (all.ensures.0 rest e) (omega arith)), omega arith)
