-- `talk_times::waited` meets its contract: by whether the second is over. Assumes nothing.
use mathlib.Core.Path.{◌∙◌}
use Rattle.talk_times.specs.Timed.{idle_head}
use Rattle.talk_times.proofs.Times.{runs_on, runs_out}
use Rattle.talk_times.proofs.waited.Goals as goal

pub returns-then-run-lt-SECOND : goal.returns-then-run-lt-SECOND
returns-then-run-lt-SECOND c =
    c.timed_head.ensures ∙ runs_on c.args.us c.args.h c.if-run-lt-SECOND.true

pub returns : goal.returns
unfolding idle_head
returns c =
    runs_out c.args.us c.args.h c.if-run-lt-SECOND.false
