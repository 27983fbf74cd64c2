-- `box_deciding::decide` meets its contract: the functions on the regions do what the call does. Assumes nothing.
use mathlib.Core.Path.{refl}
use Rattle.std.proofs.Common.{rules}
use Rattle.machine.specs.Channel.{lent, raw_lent, decide}
use Rattle.decision.specs.Number.{told}
use Rattle.box_deciding.proofs.decide.Goals as goal

pub returns : goal.returns
unfolding lent raw_lent
returns c rates =
    c.on_raw_channel.ensures rates (decide c.args.wide c.args.id) told
    (record { speaks_so = refl; done = λ r r' a o d. search rules })
    refl (λ _. refl) refl
