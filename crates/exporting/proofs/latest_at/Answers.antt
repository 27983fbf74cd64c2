-- `exporting::latest_at` meets its contract. Assumes nothing.
use Rattle.exporting.proofs.Promise.{latest_near, latest_far}
use Rattle.exporting.proofs.latest_at.Goals as goal

pub returns-then-at-le-LONGEST : goal.returns-then-at-le-LONGEST
returns-then-at-le-LONGEST c = latest_near _ c.if-at-le-LONGEST.true

pub returns : goal.returns
returns c = latest_far _ c.if-at-le-LONGEST.false
