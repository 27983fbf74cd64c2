-- `device_channels::connect` meets its contract: the rates of now are lent. Assumes nothing.
use Rattle.machine.specs.Codes.{two_rates}
use Rattle.device_channels.proofs.connect.Goals as goal

pub returns : goal.returns
unfolding two_rates
returns c = c.connect_with.ensures
