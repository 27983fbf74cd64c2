-- `channel_reader::channel` meets its contract. Assumes nothing.
use mathlib.Core.Path.{◌≡◌, ap, ◌∙◌}
use native.Mathlib.Omega.{arith}
use lib.ListN.{length}
use Rattle.telegram.specs.Telegram.{channel, read_channel}
use Rattle.telegram.proofs.Tests.{listed}
use Rattle.telegram.proofs.Channel.{alone_other}
use Rattle.telegram_answers.proofs.Answers.{answers}
use Rattle.channel_reader.proofs.channel.Goals as goal

pub returns-then-bytes-lt1 : goal.returns-then-bytes-lt1
unfolding read_channel
returns-then-bytes-lt1 c =
    let b = c.args.bytes.now in
    let empty : length b ≡ 0 = omega arith in
    c.refused.ensures ∙ answers channel (ap read_channel (listed b 0 empty))

pub returns-then-bytes-gt1 : goal.returns-then-bytes-gt1
returns-then-bytes-gt1 c =
    c.refused-then-bytes-gt1.ensures
    ∙ answers channel (alone_other _ c.if-first-le63.false c.if-first-eq80.false c.if-bytes-gt1.true)

pub returns : goal.returns
returns c =
    let b = c.args.bytes.now in
    let one : length b ≡ 1 = omega arith in
    c.alone.ensures ∙ answers channel (ap read_channel (listed b 1 one))
