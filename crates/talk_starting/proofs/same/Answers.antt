-- `talk_starting::same` meets its contract: by the first. Assumes nothing.
use Rattle.talk_starting.proofs.Laws.{same_on}
use Rattle.talk_starting.proofs.same.Goals as goal

-- src/lib.rt:26:1
pub returns-then-a : goal.returns-then-a
returns-then-a c = same_on c.args.a c.args.b c.if-a.true
