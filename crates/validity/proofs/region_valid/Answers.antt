-- `validity::region_valid` meets its contract: closed, open, neither. Assumes nothing.
use Rattle.validity.proofs.Region.{region_closed, region_open, region_neither}
use mathlib.Core.Path.{◌∙◌}
use Rattle.validity.proofs.region_valid.Goals as goal

pub returns-then-k-eq0 : goal.returns-then-k-eq0
returns-then-k-eq0 c = c.all_zero.ensures ∙ region_closed c.args.s.now c.requires c.if-k-eq0.true

pub returns-then-k-eq1 : goal.returns-then-k-eq1
returns-then-k-eq1 c = c.opened.ensures ∙ region_open c.args.s.now c.if-k-eq1.true

pub returns : goal.returns
returns c = region_neither c.args.s.now c.if-k-eq0.false c.if-k-eq1.false
