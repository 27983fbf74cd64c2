use Rattle.link_calls.proofs.Laws.{busy_is}
use Rattle.link_calls.proofs.busy.Goals as goal

pub returns : goal.returns
returns c = busy_is c.args.part.now c.requires
