-- `link_acknowledging::accept` meets its contract: T_Wait, the next block, the SN. Assumes nothing.
use lib.ListN.{length-set}
use Rattle.link_acknowledging.proofs.Talks.{after, still_asks, accepts}
use borrow.Author.Rules.{rules}
use Rattle.link_acknowledging.proofs.accept.Goals as goal

pub next_block-requires : goal.next_block-requires
next_block-requires c =
    let m = c.args.s.now in
    let p = after m c.requires.0 c.requires.1 c.args.ready _ c.wait.ensures in (p.long, p.valid, still_asks m c.requires.0 c.requires.1 c.args.ready _ c.wait.ensures c.requires.2)

pub shape_of-s : goal.shape_of-s
shape_of-s c = simp length-set (search rules)

pub returns : goal.returns
returns c =
    let m = c.args.s.now in
    accepts m c.requires.0 c.requires.1 c.args.ready _ c.wait.ensures c.args.sn _ c.next_block.ensures
