-- `validity::link` meets its contract. Assumes nothing.
use mathlib.Core.Path.{sym, ◌∙◌}
use mathlib.Core.Bool.{not, ◌&&◌, ◌||◌}
use lib.Dec.{eqb}
use lib.ListN.{get_or}
use Rattle.layout.specs.Memory.{links_on}
use Rattle.layout.proofs.Link.{link_valid}
use Rattle.validity.proofs.link.Goals as goal

pub returns : goal.returns
unfolding links_on
returns c =
    let valid = c.valid.ensures in
    let narrow = c.takes_width.ensures in
    (λ j. valid j && (eqb (get_or c.args.s.now 0 0) 0 || (narrow j && not (c.listens.ensures j))))
    ∙ sym (link_valid c.args.flags c.args.s.now c.requires)
