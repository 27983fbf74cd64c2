-- `talk_giving::flow_taken` meets its contract: by its kind. Assumes nothing.
use Rattle.talk_giving.proofs.Laws.{refused, quieted}
use Rattle.talk_giving.proofs.flow_taken.Goals as goal

-- src/lib.rt:57:9
pub returns-then-h-eq-REFUSES : goal.returns-then-h-eq-REFUSES
returns-then-h-eq-REFUSES c = refused c.args.h c.if-h-eq-REFUSES.true

-- src/lib.rt:53:1
pub returns : goal.returns
returns c = quieted c.args.h c.if-h-eq-REFUSES.false
