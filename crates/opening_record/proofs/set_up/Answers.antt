-- `opening_record::set_up` meets its contract. Assumes nothing.
use Rattle.telegram_types.specs.Face.{said, taken_said, opening_said}
use Rattle.telegram_record.specs.Record.{set_up_in}
use Rattle.telegram_record.proofs.Narrowed.{whole, wide, whole_byte, no_byte, unfit_none}
use Rattle.opening_record.proofs.Openings.{set_up_small}
use Rattle.opening_record.proofs.set_up.Goals as goal

pub returns-in_err-destination : goal.returns-in_err-destination
unfolding set_up_in
returns-in_err-destination c =
    unfit_none _ _ _ c.from_residual.ensures
    (λ fit. no_byte _ _ _ c.destination_in.ensures c.in_err-destination.was (set_up_small _ _ _ _ fit).0)

pub returns-in_err-rx_id : goal.returns-in_err-rx_id
unfolding set_up_in
returns-in_err-rx_id c =
    unfit_none _ _ _ c.from_residual-in_err-rx_id.ensures
    (λ fit. wide 16 _ _ _ c.try_from.ensures c.ok.ensures.value c.in_err-rx_id.was (rw c.word_at.ensures.0 (set_up_small _ _ _ _ fit).1))

pub returns-in_err-application : goal.returns-in_err-application
unfolding set_up_in
returns-in_err-application c =
    unfit_none _ _ _ c.from_residual-in_err-application.ensures
    (λ fit. no_byte _ _ _ c.byte_at.ensures c.in_err-application.was (set_up_small _ _ _ _ fit).2)

pub returns : goal.returns
unfolding taken_said said opening_said set_up_in
returns c =
    let rx = whole 16 _ _ _ _ c.try_from.ensures c.ok.ensures.value c.in_ok-rx_id.was in
    rw (
      whole_byte _ _ _ _ c.destination_in.ensures c.in_ok-destination.was,
      rx,
      whole_byte _ _ _ _ c.byte_at.ensures c.in_ok-application.was,
      c.word_at-identifier.ensures.0,
      c.word_at.ensures.0,
    )
