-- `deciding::decide` meets its contract. Assumes nothing.
use Rattle.std.proofs.lemmas.Result.{err_from_is_err_and}
use mathlib.Core.Path.{refl, ap}
use Rattle.machine.specs.Early.{early_number}
use Rattle.codes.specs.Code.{code_of}
use Rattle.codes.proofs.Laws.{not_done}
use Rattle.decision.specs.Number.{said, number_of}
use Rattle.filterbank.proofs.Lent.{part_lent}
use Rattle.deciding.proofs.Laws.{refused, not_taken, answered}
use Rattle.deciding.proofs.decide.Goals as goal

pub returns-in_err-frame_code : goal.returns-in_err-frame_code
returns-in_err-frame_code c rates t =
    let p = err_from_is_err_and c.from_residual.result c.from_residual.ensures.1 in
    rw p.1 (refused c.requires c.args.wide c.args.id rates t (rw p.2 c.in_err-frame_code.ensures) (not_done p.0) refl)

pub returns-then-not-takes_width : goal.returns-then-not-takes_width
unfolding number_of said early_number
returns-then-not-takes_width c rates t =
    not_taken c.requires c.args.wide c.args.id rates t c.frame_code.ensures (ap code_of c.in_ok-frame_code.was)
    c.word_at.ensures.0 c.takes_width.ensures c.if-not-takes_width.true refl

pub answer-requires : goal.answer-requires
answer-requires c = part_lent c.args.r.now c.requires

pub returns : goal.returns
unfolding number_of
returns c rates t =
    answered c.requires c.args.wide c.args.id rates t c.frame_code.ensures
    (ap code_of c.in_ok-frame_code.was) c.word_at.ensures.0
    c.takes_width.ensures c.if-not-takes_width.false
    (λ flags. ap early_number (c.answer.ensures flags))
