-- `box_links::link_open` meets its contract: the functions on the regions do what the call does. Assumes nothing.
use mathlib.Core.Path.{refl}
use Rattle.std.proofs.Common.{rules}
use Rattle.link_asking.specs.Asking.{asks}
use Rattle.machine.specs.Channel.{lent, raw_lent, link_open}
use Rattle.box_links.proofs.link_open.Goals as goal

pub returns : goal.returns
unfolding lent raw_lent
returns c rates =
    c.on_raw_channel.ensures rates (link_open (asks c.args.asking)) (λ _. 0)
    (record { speaks_so = refl; done = λ r r' a o d. search rules })
    refl (λ _. refl) refl
