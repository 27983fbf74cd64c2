-- `link_offers::answer` meets its contract: a connection acknowledge is in flight. Assumes nothing.
use native.Mathlib.Omega.{arith}
use lib.ListN.{length-set}
use Rattle.link_offers.proofs.Laws.{asked_lent, answered}
use Rattle.link_offers.proofs.answer.Goals as goal

pub connection-r-requires : goal.connection-r-requires
connection-r-requires c = asked_lent c.args.part.now c.requires.0.part c.requires.0.state

pub bounds-part-36 : goal.bounds-part-36
bounds-part-36 c = simp length-set (omega (arith, c.requires.0.part.long))

pub returns : goal.returns
returns c =
    let m = c.args.part.now in
    let f = c.requires.0 in
    answered m f.part f.state f.line f.gap c.requires.1 _ _ c.word_at-id.ensures.0 c.connection-r.ensures
