-- `link_starts::test_sent` meets its contract: the first test unanswered, or one more. Assumes nothing.
use Rattle.link_starts.proofs.Laws.{test_first, test_next}
use Rattle.link_starts.proofs.test_sent.Goals as goal

pub returns-then-s-eq0 : goal.returns-then-s-eq0
returns-then-s-eq0 c = test_first c.args.s.now c.requires.0 c.requires.1 _ c.put_word.ensures c.if-s-eq0.true

pub returns-else-s-eq0 : goal.returns-else-s-eq0
returns-else-s-eq0 c = test_next c.args.s.now c.requires.0 c.requires.1 _ c.put_word.ensures c.if-s-eq0.false
