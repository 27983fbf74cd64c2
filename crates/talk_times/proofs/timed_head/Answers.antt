-- `talk_times::timed_head` meets its contract: field by field. Assumes nothing.
use mathlib.Core.Path.{refl}
use Rattle.talk_times.specs.Timed.{timed}
use Rattle.talk_times.proofs.timed_head.Goals as goal

pub returns : goal.returns
unfolding timed
returns c = refl
