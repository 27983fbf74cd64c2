-- `start_time::bounded` meets its contract. Assumes nothing.
use Rattle.start_time.proofs.Starting.{is_late, in_time}
use Rattle.start_time.proofs.bounded.Goals as goal

pub returns-then-time-gt-LATEST : goal.returns-then-time-gt-LATEST
returns-then-time-gt-LATEST c = is_late _ c.if-time-gt-LATEST.true

pub returns : goal.returns
returns c = in_time _ c.if-time-gt-LATEST.false
