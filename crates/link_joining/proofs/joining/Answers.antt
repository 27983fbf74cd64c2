use mathlib.Core.Path.{sym, ap, ◌∙◌}
use mathlib.Core.Option.{some}
use Rattle.telegram_types.specs.Face.{channel_said}
use Rattle.telegram_types.specs.declared.OnChannel.{OnChannel}
use Rattle.link.specs.Connection.{joined}
use Rattle.link_joining.specs.Meaning.{after_join}
use Rattle.link_joining.proofs.Meanings.{acknowledges, sets_up}
use Rattle.link_joining.proofs.joining.Goals as goal

pub returns-then-ack : goal.returns-then-ack
unfolding after_join joined channel_said
returns-then-ack c a tx n s bytes =
    sym (ap (λ (t : OnChannel). joined a tx n s (some (channel_said t bytes))) c.in-Connection.is ∙ acknowledges a tx n s c.in-Connection.block_size c.in-Connection.t1 c.in-Connection.t2 c.in-Connection.t3 c.in-Connection.t4 c.in-Connection.ack c.if-ack.true)

pub returns-in-Data : goal.returns-in-Data
unfolding after_join joined channel_said
returns-in-Data c a tx n s bytes = sym (ap (λ (t : OnChannel). joined a tx n s (some (channel_said t bytes))) c.in-Data.is)

pub returns-in-Acknowledge : goal.returns-in-Acknowledge
unfolding after_join joined channel_said
returns-in-Acknowledge c a tx n s bytes = sym (ap (λ (t : OnChannel). joined a tx n s (some (channel_said t bytes))) c.in-Acknowledge.is)

pub returns-else-ack : goal.returns-else-ack
unfolding after_join joined channel_said
returns-else-ack c a tx n s bytes =
    sym (ap (λ (t : OnChannel). joined a tx n s (some (channel_said t bytes))) c.in-Connection.is ∙ sets_up a tx n s c.in-Connection.block_size c.in-Connection.t1 c.in-Connection.t2 c.in-Connection.t3 c.in-Connection.t4 c.in-Connection.ack c.if-ack.false)

pub returns-in-Test : goal.returns-in-Test
unfolding after_join joined channel_said
returns-in-Test c a tx n s bytes = sym (ap (λ (t : OnChannel). joined a tx n s (some (channel_said t bytes))) c.in-Test.is)

pub returns-in-Break : goal.returns-in-Break
unfolding after_join joined channel_said
returns-in-Break c a tx n s bytes = sym (ap (λ (t : OnChannel). joined a tx n s (some (channel_said t bytes))) c.in-Break.is)

pub returns-in-Disconnect : goal.returns-in-Disconnect
unfolding after_join joined channel_said
returns-in-Disconnect c a tx n s bytes = sym (ap (λ (t : OnChannel). joined a tx n s (some (channel_said t bytes))) c.in-Disconnect.is)
