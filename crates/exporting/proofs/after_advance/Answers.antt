-- `exporting::after_advance` meets its contract. Assumes nothing.
use Rattle.exporting.proofs.Events.{too_long, accepted}
use Rattle.exporting.proofs.after_advance.Goals as goal

pub returns-then-us : goal.returns-then-us
returns-then-us c = too_long c.args.time c.args.us c.if-us.true

pub returns : goal.returns
returns c = accepted c.args.time c.args.us c.if-us.false
