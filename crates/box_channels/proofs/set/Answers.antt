-- `box_channels::set` meets its contract: the functions on the regions do what the call does. Assumes nothing.
use mathlib.Core.Path.{refl}
use Rattle.std.proofs.Common.{rules}
use Rattle.machine.specs.Channel.{lent, set_parameter}
use Rattle.box_channels.proofs.set.Goals as goal

pub returns : goal.returns
unfolding lent
returns c =
    c.on_channel.ensures c.args.rates.now (set_parameter c.args.parameter c.args.value) (λ _. 0)
    (record { speaks_so = refl; done = λ r r' a o d. search rules })
    (record { both = refl; done = λ r r' a o d. search rules })
    (λ _. refl) refl
