-- `link_replies::reply_in` meets its contract: no telegram, an opening one, or one on a channel. Assumes nothing.
use mathlib.Core.Path.{sym, ap, ◌∙◌}
use Rattle.telegram.specs.Telegram.{read_opening}
use Rattle.telegram_types.specs.Face.{said}
use Rattle.link.specs.Connection.{replied}
use Rattle.link_replies.specs.Meaning.{after_reply}
use Rattle.telegram_types.proofs.Reading.{opening_read, opening_unread, carries}
use Rattle.link_replies.proofs.reply_in.Goals as goal

pub returns-in_default : goal.returns-in_default
unfolding after_reply replied
returns-in_default c a n t q =
    sym (ap (replied a n t) (opening_unread c.in_default.field-0 c.args.id (read_opening c.args.id c.args.bytes.now) c.in_default.ensures))

pub returns-in-Opening : goal.returns-in-Opening
unfolding said
returns-in-Opening c a n t q =
    c.meaning.ensures a n t (carries c.in-Ok.answer) q
    ∙ sym (ap (replied a n t) (opening_read c.in-Ok.answer c.args.id (read_opening c.args.id c.args.bytes.now) c.in-Ok.ensures _ c.in-Opening.is))

pub returns-in-Channel : goal.returns-in-Channel
unfolding after_reply replied said
returns-in-Channel c a n t q =
    sym (ap (replied a n t) (opening_read c.in-Ok.answer c.args.id (read_opening c.args.id c.args.bytes.now) c.in-Ok.ensures _ c.in-Channel.is))
