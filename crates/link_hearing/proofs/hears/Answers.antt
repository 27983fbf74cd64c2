use Rattle.link_hearing.proofs.Laws.{passes}
use Rattle.link_hearing.proofs.hears.Goals as goal

pub returns-else-state-eq-STANDING : goal.returns-else-state-eq-STANDING
returns-else-state-eq-STANDING c =
    passes c.args.part.now c.requires c.args.id c.args.bytes.now c.if-state-eq-OPENING.false c.if-state-eq-CONNECTING.false c.if-state-eq-STANDING.false
