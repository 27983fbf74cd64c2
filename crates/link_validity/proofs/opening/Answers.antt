use mathlib.Core.Path.{◌∙◌}
use mathlib.Core.Bool.{◌&&◌}
use Rattle.link_validity.proofs.States.{opening_flat}
use Rattle.link_validity.proofs.opening.Goals as goal

pub returns : goal.returns
returns c =
    (λ j. c.asked.ensures j && (c.all_zero.ensures j && (c.trials.ensures j && c.all_zero-2.ensures j))) ∙ opening_flat c.args.part.now c.requires
