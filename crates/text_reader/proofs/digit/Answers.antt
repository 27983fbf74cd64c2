-- `text_reader::digit` meets its contract. Assumes nothing.
use Rattle.text_reader.proofs.Digits.{decimal_digit, upper_digit, lower_digit, not_a_digit}
use Rattle.text_reader.proofs.digit.Goals as goal

pub returns-then-c : goal.returns-then-c
returns-then-c c = decimal_digit _ c.if-c.true

pub returns-then-c-2 : goal.returns-then-c-2
returns-then-c-2 c = upper_digit _ c.if-c.false c.if-c-2.true

pub returns-then-c-3 : goal.returns-then-c-3
returns-then-c-3 c = lower_digit _ c.if-c.false c.if-c-2.false c.if-c-3.true

pub returns : goal.returns
returns c = not_a_digit _ c.if-c.false c.if-c-2.false c.if-c-3.false
