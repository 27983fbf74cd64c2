-- `filterwalk::wanted` meets its contract. Assumes nothing.
use Rattle.filterwalk.proofs.Looks.{by_these}
use Rattle.filterwalk.proofs.wanted.Goals as goal

pub returns : goal.returns
returns c = by_these _ _ _ c.if-passed.false c.hits.ensures
