-- `device_traffic::sent` meets its contract. Assumes nothing.
use Rattle.std.proofs.lemmas.Result.{err_from_is_err_and}
use Rattle.machine.specs.Channel.{sent, lent}
use Rattle.machine.specs.Step.{call, lent_by}
use Rattle.machine.specs.Codes.{two_rates}
use Rattle.box_validity.proofs.Refused.{no_device}
use Rattle.device_traffic.proofs.sent.Goals as goal

pub returns-in_err-check : goal.returns-in_err-check
unfolding lent_by lent
returns-in_err-check c =
    let p = err_from_is_err_and c.from_residual.result c.from_residual.ensures.1 in
    rw (p.1, p.2) (no_device two_rates _ (call c.args.channel sent) _ c.in_err-check.ensures)
