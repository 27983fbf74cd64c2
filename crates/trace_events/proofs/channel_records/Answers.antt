-- The loop of `trace_events::channel_records` begins with a record's size of a byte or more, and few.
use Rattle.recording_sizes.proofs.Laws.{record_some, record_fits}
use Rattle.trace_events.proofs.channel_records.Goals as goal

pub loop-at-init : goal.loop-at-init
loop-at-init g c =
    let size = c.record_on-size.ensures in
    (record_some _ size, record_fits _ size)
