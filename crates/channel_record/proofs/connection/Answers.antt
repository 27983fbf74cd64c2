-- `channel_record::connection` meets its contract. Assumes nothing.
use Rattle.telegram_types.specs.Face.{said, taken_said, channel_said}
use Rattle.telegram_record.specs.Record.{connection_in}
use Rattle.telegram_record.proofs.Narrowed.{whole_byte, no_byte, unfit_none}
use Rattle.channel_record.proofs.Channels.{connection_small}
use Rattle.channel_record.proofs.connection.Goals as goal

pub returns-in_err-block_size : goal.returns-in_err-block_size
unfolding connection_in
returns-in_err-block_size c =
    unfit_none _ _ _ c.from_residual.ensures
    (λ fit. no_byte _ _ _ c.byte_at.ensures c.in_err-block_size.was (connection_small _ _ _ _ _ _ fit).0)

pub returns-in_err-t1 : goal.returns-in_err-t1
unfolding connection_in
returns-in_err-t1 c =
    unfit_none _ _ _ c.from_residual-in_err-t1.ensures
    (λ fit. no_byte _ _ _ c.byte_at-2.ensures c.in_err-t1.was (connection_small _ _ _ _ _ _ fit).1)

pub returns-in_err-t2 : goal.returns-in_err-t2
unfolding connection_in
returns-in_err-t2 c =
    unfit_none _ _ _ c.from_residual-in_err-t2.ensures
    (λ fit. no_byte _ _ _ c.byte_at-3.ensures c.in_err-t2.was (connection_small _ _ _ _ _ _ fit).2)

pub returns-in_err-t3 : goal.returns-in_err-t3
unfolding connection_in
returns-in_err-t3 c =
    unfit_none _ _ _ c.from_residual-in_err-t3.ensures
    (λ fit. no_byte _ _ _ c.byte_at-4.ensures c.in_err-t3.was (connection_small _ _ _ _ _ _ fit).3)

pub returns-in_err-t4 : goal.returns-in_err-t4
unfolding connection_in
returns-in_err-t4 c =
    unfit_none _ _ _ c.from_residual-in_err-t4.ensures
    (λ fit. no_byte _ _ _ c.byte_at-5.ensures c.in_err-t4.was (connection_small _ _ _ _ _ _ fit).4)

pub returns : goal.returns
unfolding taken_said said channel_said connection_in
returns c =
    rw (
      whole_byte _ _ _ _ c.byte_at.ensures c.in_ok-block_size.was,
      whole_byte _ _ _ _ c.byte_at-2.ensures c.in_ok-t1.was,
      whole_byte _ _ _ _ c.byte_at-3.ensures c.in_ok-t2.was,
      whole_byte _ _ _ _ c.byte_at-4.ensures c.in_ok-t3.was,
      whole_byte _ _ _ _ c.byte_at-5.ensures c.in_ok-t4.was,
      c.word_at-kind.ensures.0,
    )
