-- `framing::flow` meets its contract: three bytes. Assumes nothing.
use Rattle.framing.proofs.Laws.{flow_done}
use Rattle.framing.proofs.flow.Goals as goal

-- src/lib.rt:43:1
pub returns : goal.returns
returns c = flow_done c.args.d.now c.args.d.now c.args.d.now c.requires.0 c.args.status
