-- `link_acknowledging::wait` meets its contract: T_Wait runs or stays. Assumes nothing.
use Rattle.link_acknowledging.proofs.Talks.{waits, goes_on}
use Rattle.link_acknowledging.proofs.wait.Goals as goal

pub returns-then-ready : goal.returns-then-ready
returns-then-ready c =
    goes_on c.args.s.now c.requires.0 c.requires.1 c.args.ready c.if-ready.true

pub returns : goal.returns
returns c =
    waits c.args.s.now c.requires.0 c.requires.1 c.args.ready c.if-ready.false _ c.put_word.ensures
