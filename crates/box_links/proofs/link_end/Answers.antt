-- `box_links::link_end` meets its contract: the functions on the regions do what the call does. Assumes nothing.
use mathlib.Core.Path.{refl}
use Rattle.std.proofs.Common.{rules}
use Rattle.machine.specs.Channel.{lent, raw_lent, link_end}
use Rattle.box_links.proofs.link_end.Goals as goal

pub returns : goal.returns
unfolding lent raw_lent
returns c rates =
    c.on_raw_channel.ensures rates link_end (λ _. 0)
    (record { speaks_so = refl; done = λ r r' a o d. search rules })
    refl (λ _. refl) refl
