use Rattle.link_calls.proofs.Laws.{emptied_is}
use Rattle.link_calls.proofs.empty.Goals as goal

pub returns : goal.returns
returns c = emptied_is c.args.s.now _ c.requires.0 c.requires.1 c.clear.ensures
