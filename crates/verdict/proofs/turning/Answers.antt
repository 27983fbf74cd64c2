-- `verdict::turning` meets its contract. Assumes nothing.
use mathlib.Core.Path.{ap, sym}
use Rattle.verdict.specs.Others.{turning_kind}
use Rattle.verdict.proofs.turning.Goals as goal

pub returns-then-passed : goal.returns-then-passed
unfolding turning_kind
returns-then-passed c = ap turning_kind (sym c.if-passed.true)

pub returns : goal.returns
unfolding turning_kind
returns c = ap turning_kind (sym c.if-passed.false)
