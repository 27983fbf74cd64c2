-- `times::time` meets its contract: the table is computed from the rule over all 256 bytes, and compared. Assumes nothing.
use borrow.Author.Rules.{rules}
use Rattle.telegram.specs.Telegram.{time_of}
use Rattle.telegram.proofs.Tests.{tabled}
use Rattle.times.proofs.time.Goals as goal

pub returns : goal.returns
unfolding time_of
returns c = tabled time_of 256 c.args.b (search rules)
