-- `link_landing::sent` meets its contract, by the state. Assumes nothing.
use Rattle.link_landing.proofs.Laws.{none_sent, opening_sent}
use Rattle.link_landing.proofs.sent.Goals as goal

pub returns-then-state-eq-ABSENT : goal.returns-then-state-eq-ABSENT
returns-then-state-eq-ABSENT c = none_sent c.args.part.now c.requires c.if-state-eq-ABSENT.true

pub trials_sent-requires : goal.trials_sent-requires
trials_sent-requires c = let q = opening_sent c.args.part.now c.requires c.if-state-eq-ABSENT.false c.if-state-eq-STANDING.false c.if-state-eq-LEAVING.false in (q.long, q.fine)

pub returns : goal.returns
returns c = (opening_sent c.args.part.now c.requires c.if-state-eq-ABSENT.false c.if-state-eq-STANDING.false c.if-state-eq-LEAVING.false).done _ c.trials_sent.ensures
