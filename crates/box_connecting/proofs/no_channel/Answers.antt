-- `box_connecting::no_channel` meets its contract. Assumes nothing.
use mathlib.Core.Path.{refl}
use Rattle.std.proofs.lemmas.Result.{err_from_is_err_and}
use Rattle.codes.proofs.Laws.{not_done}
use Rattle.box_connecting.proofs.Laws.{refused, no_such_line}
use Rattle.box_connecting.proofs.no_channel.Goals as goal

pub returns-in_err-check : goal.returns-in_err-check
returns-in_err-check c m line v out =
    let p = err_from_is_err_and c.from_residual.result c.from_residual.ensures.1 in
    rw (p.1, p.2) (refused _ _ _ _ m line v out _ c.in_err-check.ensures (not_done c.in_err-check.field-0.0))

pub returns : goal.returns
returns c m line v out = no_such_line _ _ _ _ m line v out _ c.in_ok-check.ensures refl
