use Rattle.link_calls.proofs.Laws.{started}
use Rattle.link_calls.proofs.start.Goals as goal

pub returns : goal.returns
returns c = started c.args.s.now c.args.message.now _ c.requires.1 c.put.ensures
