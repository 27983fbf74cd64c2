-- `iso_periodics::start_in` meets its contract: by the length of the message. Assumes nothing.
use Rattle.iso_periodics.proofs.Laws.{short_start, no_start}
use Rattle.iso_periodics.proofs.start_in.Goals as goal

pub returns-then-message-lt-RECORD : goal.returns-then-message-lt-RECORD
returns-then-message-lt-RECORD c r f rates t interval = short_start r f rates t _ interval c.if-message-lt-RECORD.true

pub returns : goal.returns
returns c r f rates t interval = no_start r f rates t _ interval c.if-message-lt-RECORD.false
