-- `link_starts::behind_sent` meets its contract: T3 runs where the disconnect telegram waited behind another. Assumes nothing.
use mathlib.Core.Path.{◌∙◌}
use Rattle.link_starts.proofs.Laws.{behind_runs, behind_stays}
use Rattle.link_starts.proofs.behind_sent.Goals as goal

pub returns-then-s-eq-BEHIND : goal.returns-then-s-eq-BEHIND
returns-then-s-eq-BEHIND c = c.put_which.ensures ∙ behind_runs c.args.s.now c.requires.0 c.requires.1 c.if-s-eq-BEHIND.true c.micros-us.result c.micros-us.ensures.0

pub returns-else-s-eq-BEHIND : goal.returns-else-s-eq-BEHIND
returns-else-s-eq-BEHIND c = behind_stays c.args.s.now c.requires.0 c.requires.1 c.if-s-eq-BEHIND.false
