use mathlib.Core.Path.{◌∙◌}
use mathlib.Core.Bool.{◌&&◌}
use lib.Dec.{leb}
use Rattle.link_validity.proofs.States.{connecting_flat}
use Rattle.link_validity.proofs.connecting.Goals as goal

pub returns : goal.returns
returns c =
    let w = c.word_at.ensures in
    (λ j. c.asked.ensures j && (c.trials.ensures j && c.all_zero.ensures j) && leb (w.0 j) 0x7FF) ∙ connecting_flat c.args.part.now c.requires w.1
