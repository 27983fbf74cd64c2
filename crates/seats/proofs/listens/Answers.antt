-- `seats::listens` meets its contract: by the flags in the region. Assumes nothing.
use mathlib.Core.Path.{ap, ◌∙◌}
use native.Mathlib.Omega.{arith}
use Rattle.codec.proofs.Lists.{part_long}
use Rattle.layout.specs.Sizes.{region_size}
use Rattle.machine.specs.Channel.{listens}
use Rattle.seats.proofs.listens.Goals as goal

pub word_at-requires : goal.word_at-requires
word_at-requires c = omega (arith, part_long c.args.at region_size c.args.mem.now c.requires)

pub returns : goal.returns
returns c = c.listens.ensures ∙ ap listens c.word_at.ensures.0
