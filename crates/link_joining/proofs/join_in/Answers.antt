-- `link_joining::join_in` meets its contract: no telegram, an opening one, or one on the channel. Assumes nothing.
use mathlib.Core.Path.{sym, ap, ◌∙◌}
use Rattle.telegram.specs.Telegram.{read_channel}
use Rattle.telegram_types.specs.Face.{said}
use Rattle.link.specs.Connection.{joined}
use Rattle.link_joining.specs.Meaning.{after_join}
use Rattle.telegram_types.proofs.Reading.{channel_read, channel_unread, carries}
use Rattle.link_joining.proofs.join_in.Goals as goal

pub returns-in_default : goal.returns-in_default
unfolding after_join joined
returns-in_default c a tx n s =
    sym (ap (joined a tx n s) (channel_unread c.in_default.field-0 (read_channel c.args.bytes.now) c.in_default.ensures))

pub returns-in-Opening : goal.returns-in-Opening
unfolding after_join joined said
returns-in-Opening c a tx n s =
    sym (ap (joined a tx n s) (channel_read c.in-Ok.answer (read_channel c.args.bytes.now) c.in-Ok.ensures _ c.in-Opening.is))

pub returns-in-Channel : goal.returns-in-Channel
unfolding said
returns-in-Channel c a tx n s =
    c.joining.ensures a tx n s (carries c.in-Ok.answer)
    ∙ sym (ap (joined a tx n s) (channel_read c.in-Ok.answer (read_channel c.args.bytes.now) c.in-Ok.ensures _ c.in-Channel.is))
