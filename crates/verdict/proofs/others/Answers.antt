-- `verdict::others` meets its contract. The invariant: the first f types are those that are kept, all else is as it was. Assumes nothing.
use mathlib.Core.Path.{◌≡◌}
use native.Mathlib.Omega.{arith}
use Rattle.machine.specs.Limits.{most_places}
use Rattle.verdict.proofs.Kept.{kept_none, kept_more, kept_done}
use Rattle.verdict.proofs.others.Goals as goal

pub loop-f-init : goal.loop-f-init
loop-f-init c = (omega arith, kept_none _ _ c.requires c.copy.ensures)

pub loop-f-preserved : goal.loop-f-preserved
loop-f-preserved c =
    let l = c.loop-f in
    (omega arith, kept_more _ l.heads l.f _ l.invariant.1 (omega arith) c.kept_type.ensures)

pub returns : goal.returns
returns c =
    let l = c.loop-f in
    let e : l.f ≡ most_places = omega arith in
    kept_done _ l.heads (rw e at l.invariant.1)
