-- `periodics::start_code` meets its contract. Assumes nothing.
use mathlib.Core.Path.{◌∙◌}
use Rattle.periodics.proofs.Region.{start_short, start_early, start_late, start_message}
use Rattle.periodics.proofs.start_code.Goals as goal

pub returns-then-message-lt-RECORD : goal.returns-then-message-lt-RECORD
returns-then-message-lt-RECORD c = start_short c.args.flags c.args.message.now c.args.interval c.if-message-lt-RECORD.true

pub returns-then-interval-lt-LEAST_INTERVAL : goal.returns-then-interval-lt-LEAST_INTERVAL
returns-then-interval-lt-LEAST_INTERVAL c = start_early c.args.flags c.args.message.now c.args.interval c.if-message-lt-RECORD.false c.if-interval-lt-LEAST_INTERVAL.true

pub returns-then-interval-gt-MOST_INTERVAL : goal.returns-then-interval-gt-MOST_INTERVAL
returns-then-interval-gt-MOST_INTERVAL c = start_late c.args.flags c.args.message.now c.args.interval c.if-message-lt-RECORD.false c.if-interval-lt-LEAST_INTERVAL.false c.if-interval-gt-MOST_INTERVAL.true

pub message_code-requires : goal.message_code-requires
message_code-requires c = c.if-message-lt-RECORD.false

pub returns : goal.returns
returns c = c.message_code.ensures ∙ start_message c.args.flags c.args.message.now c.args.interval c.if-message-lt-RECORD.false c.if-interval-lt-LEAST_INTERVAL.false c.if-interval-gt-MOST_INTERVAL.false
