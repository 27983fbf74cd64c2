-- `box_orders::stop_periodic` meets its contract: the functions on the regions do what the call does. Assumes nothing.
use mathlib.Core.Path.{refl}
use Rattle.std.proofs.Common.{rules}
use Rattle.machine.specs.Channel.{lent, stop_periodic}
use Rattle.box_orders.proofs.stop_periodic.Goals as goal

pub returns : goal.returns
unfolding lent
returns c rates =
    c.on_channel.ensures rates (stop_periodic c.args.number) (λ _. 0)
    (record { speaks_so = refl; done = λ r r' a o d. search rules })
    (record { both = refl; done = λ r r' a o d. search rules })
    (λ _. refl) refl
