-- `link_landing::left` meets its contract: gone, or still waiting. Assumes nothing.
use Rattle.link_landing.proofs.Laws.{gone, behind}
use Rattle.link_landing.proofs.left.Goals as goal

pub returns-then-part-eq-GOES : goal.returns-then-part-eq-GOES
returns-then-part-eq-GOES c = gone c.args.part.now c.requires.0 c.requires.1 c.if-part-eq-GOES.true _ c.zero.ensures

pub behind_sent-requires : goal.behind_sent-requires
behind_sent-requires c = let q = behind c.args.part.now c.requires.0 c.requires.1 c.if-part-eq-GOES.false in (q.long, q.fine)

pub returns : goal.returns
returns c = (behind c.args.part.now c.requires.0 c.requires.1 c.if-part-eq-GOES.false).done _ c.behind_sent.ensures
