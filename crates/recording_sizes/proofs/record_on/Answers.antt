-- `recording_sizes::record_on` meets its contract: the definition's choice. Assumes nothing.
use Rattle.recording_sizes.specs.Sizes.{record_on}
use Rattle.recording_sizes.proofs.record_on.Goals as goal

pub returns-then-on_iso : goal.returns-then-on_iso
unfolding record_on
returns-then-on_iso c = rw (← c.on_iso.ensures, c.if-on_iso.true)

pub returns : goal.returns
unfolding record_on
returns c = rw (← c.on_iso.ensures, c.if-on_iso.false)
