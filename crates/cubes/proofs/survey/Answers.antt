-- `cubes::survey` meets its contract. Assumes nothing.
use borrow.Author.Rules.{rules}
use Rattle.cubes.proofs.Look.{look_inside, look_apart, look_open}
use Rattle.cubes.proofs.survey.Goals as goal
use Rattle.cubes.proofs.survey.Goals.{then-p-cm+else-more-eq0, else-p-cm}

pub returns-then-more-eq0 : goal.returns-then-more-eq0
returns-then-more-eq0 c = look_inside _ _ _ _ c.loop-i.i (search rules) c.if-p-cm.true c.if-more-eq0.true

pub loop-i-preserved : goal.loop-i-preserved
loop-i-preserved c =
    let l = c.loop-i in
    elim c.if-p-cm.branch [
      | then-p-cm+else-more-eq0 w ↦ look_open _ _ _ _ l.i (search rules) _ _ l.invariant _ _ w.if-more-eq0.false w.ones-is w.zeros-is
      | else-p-cm w ↦ look_apart _ _ _ _ l.i (search rules) _ _ l.invariant _ _ w.if-p-cm.false w.ones-is w.zeros-is
    ]
