-- `log_writer::digit_of` meets its contract. Assumes nothing.
use Rattle.log_writer.proofs.Digits.{low_digit, high_digit}
use Rattle.log_writer.proofs.digit_of.Goals as goal

pub returns-then-value-lt10 : goal.returns-then-value-lt10
returns-then-value-lt10 c = low_digit _ c.if-value-lt10.true

pub returns : goal.returns
returns c = high_digit _ c.if-value-lt10.false
