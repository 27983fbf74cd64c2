use Rattle.link_asking.proofs.Laws.{asked_stored}
use Rattle.link_asking.proofs.put_asked.Goals as goal

pub returns : goal.returns
returns c = asked_stored c.args.s.now _ _ _ c.requires.0 _ _ _ _ _ _ _ c.put_word.ensures c.put_word-2.ensures c.put_five.ensures
