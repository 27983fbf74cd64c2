-- `channel_reader::connection` meets its contract. Assumes nothing.
use mathlib.Core.Path.{ap, ◌∙◌}
use Rattle.telegram.specs.Telegram.{channel}
use Rattle.telegram.proofs.Tests.{wrapped}
use Rattle.telegram.proofs.Channel.{connection_byte, connection_long, connection_other}
use Rattle.telegram_types.specs.Face.{answering, said, channel_said}
use Rattle.telegram_answers.proofs.Answers.{answers}
use Rattle.channel_reader.proofs.connection.Goals as goal

pub returns-then-bytes-ne6 : goal.returns-then-bytes-ne6
returns-then-bytes-ne6 c =
    c.refused.ensures ∙ answers channel (connection_byte _ c.requires.0 c.requires.1 ∙ connection_other _ _ c.if-bytes-ne6.true)

pub returns : goal.returns
unfolding said channel_said
returns c =
    c.only_if.ensures
    ∙ ap answering
    (rw c.block_size.ensures
    (wrapped _ _ _ _ (connection_byte _ c.requires.0 c.requires.1 ∙ connection_long _ _ c.if-bytes-ne6.false)))
