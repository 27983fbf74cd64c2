-- `zeros::nothing` meets its contract: a first byte that is not zero tells. Assumes nothing.
use Rattle.zeros.proofs.Tail.{first_set}
use Rattle.zeros.proofs.nothing.Goals as goal

pub returns-then-s-ne0 : goal.returns-then-s-ne0
returns-then-s-ne0 c = first_set c.args.s.now c.if-s-ne0.true
