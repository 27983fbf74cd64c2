-- `device_channels::set` meets its contract: the rates of now are lent. Assumes nothing.
use Rattle.machine.specs.Codes.{two_rates}
use Rattle.device_channels.proofs.set.Goals as goal

pub returns : goal.returns
unfolding two_rates
returns c = c.set_with.ensures
