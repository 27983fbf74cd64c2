-- `connecting::open` meets its contract: by the mark that stands there. Assumes nothing.
use Rattle.connecting.proofs.Opening.{stays_open, opens}
use Rattle.connecting.proofs.open.Goals as goal

pub returns-then-r-ne0 : goal.returns-then-r-ne0
returns-then-r-ne0 c = stays_open c.args.r.now c.args.flags c.args.rate c.if-r-ne0.true

pub returns : goal.returns
returns c = opens c.args.r.now c.args.flags c.args.rate c.requires c.if-r-ne0.false _ _ c.put_word.ensures c.put_word-2.ensures
