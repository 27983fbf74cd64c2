-- `opening_record::negative` meets its contract. Assumes nothing.
use Rattle.telegram_types.specs.Face.{said, taken_said, opening_said}
use Rattle.telegram_record.specs.Record.{negative_in}
use Rattle.telegram_record.proofs.Narrowed.{whole_byte, no_byte, unfit_none}
use Rattle.opening_record.proofs.Openings.{negative_small}
use Rattle.opening_record.proofs.negative.Goals as goal

pub returns-in_err-destination : goal.returns-in_err-destination
unfolding negative_in
returns-in_err-destination c =
    unfit_none _ _ _ c.from_residual.ensures
    (λ fit. no_byte _ _ _ c.destination_in.ensures c.in_err-destination.was (negative_small _ _ _ _ fit).0)

pub returns-in_err-kind : goal.returns-in_err-kind
unfolding negative_in
returns-in_err-kind c =
    unfit_none _ _ _ c.from_residual-in_err-kind.ensures
    (λ fit. no_byte _ _ _ c.byte_at.ensures c.in_err-kind.was (negative_small _ _ _ _ fit).1)

pub returns : goal.returns
unfolding taken_said said opening_said negative_in
returns c =
    rw (
      whole_byte _ _ _ _ c.destination_in.ensures c.in_ok-destination.was,
      whole_byte _ _ _ _ c.byte_at.ensures c.in_ok-kind.was,
      c.word_at-identifier.ensures.0,
    )
