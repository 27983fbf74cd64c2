-- `pending::calm` meets its contract. Assumes nothing.
use Rattle.pending.proofs.Marks.{calmed}
use Rattle.pending.proofs.calm.Goals as goal

pub returns : goal.returns
returns c = calmed c.args.part.now c.requires.0 c.args.i c.requires.1
