-- `box_channels::get` meets its contract: the functions on the regions do what the call does. Assumes nothing.
use mathlib.Core.Path.{refl}
use Rattle.std.proofs.Common.{rules}
use Rattle.codes.specs.Code.{value_of}
use Rattle.machine.specs.Channel.{lent, get_parameter}
use Rattle.box_channels.proofs.get.Goals as goal

pub returns : goal.returns
unfolding lent
returns c rates =
    c.on_channel.ensures rates (get_parameter c.args.parameter) value_of
    (record { speaks_so = refl; done = λ r r' a o d. search rules })
    (record { both = refl; done = λ r r' a o d. search rules })
    (λ _. refl) refl
