-- `talk_message::message_in` meets its contract: what is whole, and its payload copied. Assumes nothing.
use mathlib.Core.Path.{◌∙◌}
use Rattle.talk_message.proofs.Reading.{message_read}
use Rattle.talk_message.proofs.message_in.Goals as goal

pub returns : goal.returns
returns c =
    let whole = c.whole_in-whole in
    let size = c.payload_size-size in
    let copied = c.copy in (
      λ flags v.
          whole.ensures flags v
          ∙ message_read c.args.t.now c.requires.0 c.requires.1 whole.result c.width_flag-tx.result c.word_at-id.result size.result copied.new.d _
          c.width_flag-tx.ensures c.word_at-id.ensures.0 size.ensures.0 copied.ensures,
      size.ensures.1,
    )
