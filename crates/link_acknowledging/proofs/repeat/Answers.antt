-- `link_acknowledging::repeat` meets its contract: T_Wait, the block begun anew. Assumes nothing.
use Rattle.link_acknowledging.proofs.Talks.{after, repeats}
use Rattle.link_acknowledging.proofs.repeat.Goals as goal

pub restart-requires : goal.restart-requires
restart-requires c =
    let m = c.args.s.now in
    let p = after m c.requires.0 c.requires.1 c.args.ready _ c.wait.ensures in (p.long, p.valid)

pub returns : goal.returns
returns c =
    let m = c.args.s.now in
    repeats m c.requires.0 c.requires.1 c.args.ready _ c.wait.ensures c.args.at c.args.again _ c.restart.ensures
