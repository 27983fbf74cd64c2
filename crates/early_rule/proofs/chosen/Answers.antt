-- `early_rule::chosen` meets its contract. Assumes nothing.
use Rattle.early_rule.proofs.Bars.{mask_taken, pattern_taken, mask_left, pattern_left}
use Rattle.early_rule.proofs.chosen.Goals as goal

pub returns-then-take : goal.returns-then-take
returns-then-take c = (mask_taken _ _ c.if-take.true, pattern_taken _ _ c.if-take.true)

pub returns : goal.returns
returns c = (mask_left _ _ c.if-take.false, pattern_left _ _ c.if-take.false)
