-- `link_starts::trials_sent` meets its contract: T_E runs where the telegram was in flight. Assumes nothing.
use Rattle.link_starts.proofs.Laws.{trials_run, trials_stay}
use Rattle.link_starts.proofs.trials_sent.Goals as goal

pub returns-then-s-eq-FLIES : goal.returns-then-s-eq-FLIES
returns-then-s-eq-FLIES c = trials_run c.args.s.now c.requires.0 c.requires.1 c.if-s-eq-FLIES.true _ c.put_which.ensures

pub returns-else-s-eq-FLIES : goal.returns-else-s-eq-FLIES
returns-else-s-eq-FLIES c = trials_stay c.args.s.now c.requires.0 c.requires.1 c.if-s-eq-FLIES.false
