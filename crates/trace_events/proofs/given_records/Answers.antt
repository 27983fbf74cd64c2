-- What `trace_events::given_records` multiplies is a number of 32 bits and the size of a record.
use Rattle.std.proofs.Common.{◌≤◌, arith}
use Rattle.std.proofs.Math.Nat.{mul-le-mul}
use Rattle.recording_sizes.proofs.Laws.{record_fits}
use Rattle.trace_events.proofs.given_records.Goals as goal

pub overflow_mul-n : goal.overflow_mul-n
overflow_mul-n g c =
    let few : c.args.moved.count ≤ 4294967295 = omega arith in
    record { fits = omega (arith, mul-le-mul few (record_fits _ c.record_on.ensures)) }
