-- `telegram_numbers::channel` meets its contract. Assumes nothing.
use mathlib.Core.Path.{sym, ap, ◌∙◌}
use Rattle.telegram.specs.Telegram.{channel}
use Rattle.telegram_types.specs.Face.{numbers_of, channel_said}
use Rattle.telegram_numbers.proofs.channel.Goals as goal

pub returns-in-Data : goal.returns-in-Data
unfolding numbers_of channel_said
returns-in-Data c = λ bytes. c.three.ensures ∙ rw (c.bit.ensures, c.bit-in-Data.ensures) (sym (ap (λ t. numbers_of (channel (channel_said t bytes))) c.in-Data.is))

pub returns-in-Acknowledge : goal.returns-in-Acknowledge
unfolding numbers_of channel_said
returns-in-Acknowledge c = λ bytes. c.three-in-Acknowledge.ensures ∙ rw c.bit-in-Acknowledge.ensures (sym (ap (λ t. numbers_of (channel (channel_said t bytes))) c.in-Acknowledge.is))

pub returns-in-Connection : goal.returns-in-Connection
unfolding numbers_of channel_said
returns-in-Connection c = λ bytes. c.five.ensures ∙ rw c.bit_value.ensures.0 (sym (ap (λ t. numbers_of (channel (channel_said t bytes))) c.in-Connection.is))

pub returns-in-Test : goal.returns-in-Test
unfolding numbers_of channel_said
returns-in-Test c = λ bytes. c.three-in-Test.ensures ∙ sym (ap (λ t. numbers_of (channel (channel_said t bytes))) c.in-Test.is)

pub returns-in-Break : goal.returns-in-Break
unfolding numbers_of channel_said
returns-in-Break c = λ bytes. c.three-in-Break.ensures ∙ sym (ap (λ t. numbers_of (channel (channel_said t bytes))) c.in-Break.is)

pub returns-in-Disconnect : goal.returns-in-Disconnect
unfolding numbers_of channel_said
returns-in-Disconnect c = λ bytes. c.three-in-Disconnect.ensures ∙ sym (ap (λ t. numbers_of (channel (channel_said t bytes))) c.in-Disconnect.is)
