use mathlib.Core.Path.{◌∙◌}
use mathlib.Core.Bool.{◌&&◌}
use lib.Dec.{leb}
use Rattle.link_validity.proofs.States.{leaving_flat}
use Rattle.link_validity.proofs.leaving.Goals as goal

pub returns : goal.returns
returns c =
    let w = c.word_at.ensures in
    (λ j. c.all_zero.ensures j && (c.all_zero-2.ensures j && (c.leaves.ensures j && c.all_zero-3.ensures j)) && leb (w.0 j) 0x7FF) ∙ leaving_flat c.args.part.now c.requires w.1
