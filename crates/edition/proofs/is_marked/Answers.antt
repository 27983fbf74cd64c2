-- `edition::is_marked` meets its contract. Assumes nothing.
use Rattle.edition.proofs.Marked.{too_short, long_enough}
use Rattle.edition.proofs.is_marked.Goals as goal

pub returns-then-recording-lt-MARK : goal.returns-then-recording-lt-MARK
returns-then-recording-lt-MARK c = too_short c.args.recording.now c.if-recording-lt-MARK.true

pub returns : goal.returns
returns c = long_enough c.args.recording.now c.if-recording-lt-MARK.false
