-- `channel_record::acknowledge` meets its contract. Assumes nothing.
use mathlib.Core.Path.{ap, ◌∙◌}
use Rattle.telegram_types.specs.Face.{said, taken_said, channel_said}
use Rattle.telegram_record.specs.Record.{kept, carried_in, acknowledge_in}
use Rattle.telegram_record.proofs.Narrowed.{whole_byte, no_byte}
use Rattle.channel_record.proofs.Channels.{acknowledge_small, unfit_if, said_if}
use Rattle.channel_record.proofs.acknowledge.Goals as goal

pub returns-in_err-sn : goal.returns-in_err-sn
unfolding acknowledge_in
returns-in_err-sn c =
    unfit_if _ _ _ _ c.from_residual.ensures
    (λ fit. no_byte _ _ _ c.byte_at.ensures c.in_err-sn.was (acknowledge_small _ _ fit))

pub returns : goal.returns
unfolding said channel_said acknowledge_in
returns c =
    ap kept (ap (λ o. taken_said o (carried_in c.args.bytes.now)) c.then_some.ensures ∙ said_if _ _ _)
    ∙ rw (whole_byte _ _ _ _ c.byte_at.ensures c.in_ok-sn.was, c.word_at-ready.ensures.0)
