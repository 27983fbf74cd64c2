-- `device_setups::load` meets its contract. Assumes nothing.
use Rattle.std.proofs.lemmas.Result.{err_from_is_err_and}
use Rattle.machine.specs.Channel.{load_setup, lent, raw_lent}
use Rattle.machine.specs.Step.{call, lent_by}
use Rattle.machine.specs.Codes.{two_rates}
use Rattle.box_validity.proofs.Refused.{no_device}
use Rattle.device_setups.proofs.load.Goals as goal

pub returns-in_err-check : goal.returns-in_err-check
unfolding lent_by lent raw_lent
returns-in_err-check c =
    let p = err_from_is_err_and c.from_residual.result c.from_residual.ensures.1 in
    rw (p.1, p.2) (no_device two_rates _ (call c.args.channel (load_setup c.args.store.now)) _ c.in_err-check.ensures)

-- the rates of now are lent
pub returns : goal.returns
unfolding two_rates
returns c = c.load.ensures
