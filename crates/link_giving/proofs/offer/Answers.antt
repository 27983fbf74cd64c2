-- `link_giving::offer` meets its contract, by the state. Assumes nothing.
use Rattle.link_giving.proofs.Laws.{none_there, leaves_else}
use Rattle.link_giving.proofs.offer.Goals as goal

pub returns-then-state-eq-ABSENT : goal.returns-then-state-eq-ABSENT
returns-then-state-eq-ABSENT c = none_there c.args.part.now c.requires c.if-state-eq-ABSENT.true _ c.nothing.ensures

pub leave-requires : goal.leave-requires
leave-requires c = (c.requires, leaves_else c.args.part.now c.requires c.if-state-eq-ABSENT.false c.if-state-eq-STANDING.false c.if-state-eq-OPENING.false c.if-state-eq-CONNECTING.false)
