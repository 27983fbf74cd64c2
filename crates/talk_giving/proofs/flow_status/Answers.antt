-- `talk_giving::flow_status` meets its contract: by its kind. Assumes nothing.
use native.Mathlib.Omega.{arith}
use Rattle.talk_giving.proofs.Laws.{overflows, goes_on}
use Rattle.talk_giving.proofs.flow_status.Goals as goal

-- src/lib.rt:46:1
pub returns-then-h-eq-REFUSES : goal.returns-then-h-eq-REFUSES
returns-then-h-eq-REFUSES c = (overflows c.args.h c.if-h-eq-REFUSES.true, omega arith)

-- src/lib.rt:46:1
pub returns-else-h-eq-REFUSES : goal.returns-else-h-eq-REFUSES
returns-else-h-eq-REFUSES c = (goes_on c.args.h c.if-h-eq-REFUSES.false, omega arith)
