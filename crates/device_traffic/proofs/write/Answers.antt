-- `device_traffic::write` meets its contract. Assumes nothing.
use Rattle.machine.specs.Channel.{write, lent}
use Rattle.machine.specs.Step.{call, lent_by}
use Rattle.machine.specs.Codes.{two_rates}
use Rattle.box_validity.proofs.Refused.{no_device}
use Rattle.device_traffic.proofs.write.Goals as goal

pub returns-in-Err : goal.returns-in-Err
unfolding lent_by lent
returns-in-Err c = no_device two_rates _ (call c.args.channel (write c.args.n c.args.buffer.now)) _ c.in-Err.ensures
