-- `trace_events::channel_records` ends: every record has some bytes.
use Rattle.std.proofs.Common.{◌-◌, ◌≤◌, length}
use Rattle.trace_events.proofs.channel_records.Given as goal

abbrev pub invariant-loop-at : goal.invariant-loop-at
invariant-loop-at g l = (1 ≤ l.size) × (l.size ≤ 536)

abbrev pub decreases-loop-at : goal.decreases-loop-at
decreases-loop-at g l = length l.list - l.at
