-- `link_measures::telegrams` meets its contract: none of no bytes, else seven in each. Assumes nothing.
use native.Mathlib.Omega.{arith}
use Rattle.link_measures.proofs.Laws.{of_none, of_some}
use Rattle.link_measures.proofs.telegrams.Goals as goal

pub returns-then-n-eq0 : goal.returns-then-n-eq0
returns-then-n-eq0 c = ((λ rest e. of_none rest (omega arith)), omega arith, omega arith)

pub overflow_add-result : goal.overflow_add-result
overflow_add-result c = omega arith

pub returns : goal.returns
returns c = ((λ rest e. of_some c.args.n rest (omega arith) e), omega arith, omega arith)
