-- `answers::number_size` meets its contract. Assumes nothing.
use mathlib.Core.Path.{sym}
use native.Mathlib.Omega.{arith}
use Rattle.answers.proofs.Size.{one_byte, two_bytes, three_bytes, four_bytes, five_bytes}
use Rattle.answers.proofs.number_size.Goals as goal

pub returns-then-value-lt128 : goal.returns-then-value-lt128
returns-then-value-lt128 c = sym (one_byte _ c.if-value-lt128.true)

pub returns-then-value-lt16384 : goal.returns-then-value-lt16384
returns-then-value-lt16384 c = sym (two_bytes _ c.if-value-lt128.false c.if-value-lt16384.true)

pub returns-then-value-lt2097152 : goal.returns-then-value-lt2097152
returns-then-value-lt2097152 c = sym (three_bytes _ c.if-value-lt16384.false c.if-value-lt2097152.true)

pub returns-then-value-lt268435456 : goal.returns-then-value-lt268435456
returns-then-value-lt268435456 c = sym (four_bytes _ c.if-value-lt2097152.false c.if-value-lt268435456.true)

pub returns : goal.returns
returns c = sym (five_bytes c.args.value c.if-value-lt268435456.false (omega (arith, c.ranges.value)))
