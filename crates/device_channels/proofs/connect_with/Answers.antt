-- `device_channels::connect_with` meets its contract. Assumes nothing.
use Rattle.std.proofs.lemmas.Result.{err_from_is_err_and}
use Rattle.machine.specs.Step.{connect, lent_by}
use Rattle.box_validity.proofs.Refused.{no_device}
use Rattle.device_channels.proofs.connect_with.Goals as goal

pub returns-in_err-check : goal.returns-in_err-check
unfolding lent_by
returns-in_err-check c =
    let p = err_from_is_err_and c.from_residual.result c.from_residual.ensures.1 in
    rw (p.1, p.2) (no_device _ _ (connect c.args.line c.args.protocol c.args.flags c.args.rate) _ c.in_err-check.ensures)
