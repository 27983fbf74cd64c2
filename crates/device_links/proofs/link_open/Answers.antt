-- `device_links::link_open` meets its contract. Assumes nothing.
use Rattle.std.proofs.lemmas.Result.{err_from_is_err_and}
use Rattle.machine.specs.Channel.{link_open, lent, raw_lent}
use Rattle.machine.specs.Step.{call, lent_by}
use Rattle.machine.specs.Codes.{two_rates}
use Rattle.link_asking.specs.Asking.{asks}
use Rattle.box_validity.proofs.Refused.{no_device}
use Rattle.device_links.proofs.link_open.Goals as goal

pub returns-in_err-check : goal.returns-in_err-check
unfolding lent_by lent raw_lent
returns-in_err-check c =
    let p = err_from_is_err_and c.from_residual.result c.from_residual.ensures.1 in
    rw (p.1, p.2) (no_device two_rates _ (call c.args.channel (link_open (asks c.args.asking))) _ c.in_err-check.ensures)
