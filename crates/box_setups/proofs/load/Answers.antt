-- `box_setups::load` meets its contract: the functions on the regions do what the call does. Assumes nothing.
use mathlib.Core.Path.{refl}
use Rattle.std.proofs.Common.{rules}
use Rattle.machine.specs.Channel.{lent, raw_lent, load_setup}
use Rattle.box_setups.proofs.load.Goals as goal

pub returns : goal.returns
unfolding lent raw_lent
returns c =
    c.on_raw_channel.ensures c.args.rates.now (load_setup c.args.store.now) (λ _. 0)
    (record { speaks_so = refl; done = λ r r' a o d. search rules })
    refl (λ _. refl) refl
