-- `link_data::held` meets its contract: the count of the message. Assumes nothing.
use Rattle.link_data.proofs.Stored.{lent, counted}
use Rattle.link_data.proofs.held.Goals as goal

pub count-requires : goal.count-requires
count-requires c =
    let m = c.args.s.now in
    let p = lent m c.requires.0 c.requires.1 in (p.long, p.valid)

pub returns : goal.returns
returns c =
    let m = c.args.s.now in
    (counted m c.requires.0 c.requires.1 _ c.count.ensures.0, c.count.ensures.1)
