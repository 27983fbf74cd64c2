-- `early::cube_at` meets its contract. Assumes nothing.
use mathlib.Core.Path.{ap₂, ◌∙◌}
use Rattle.early_rule.specs.Words.{mask_word, pattern_word}
use Rattle.early.specs.Cubes.{mask_at, pattern_at}
use Rattle.early.proofs.cube_at.Goals as goal

pub returns : goal.returns
unfolding mask_at pattern_at
returns c =
    let k = c.kept-keep.ensures in
    (c.chosen.ensures.0 ∙ ap₂ mask_word k c.word-mask.ensures, c.chosen.ensures.1 ∙ ap₂ pattern_word k c.word-pattern.ensures)
