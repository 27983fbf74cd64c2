-- `link_telling::tested` meets its contract: three fields. Assumes nothing.
use mathlib.Core.Path.{◌∙◌}
use native.Mathlib.Omega.{arith}
use lib.ListN.{set, length-set}
use Rattle.link_telling.proofs.Care.{left_long, tests}
use Rattle.link_telling.proofs.tested.Goals as goal

pub slice_bounds-put_word-end : goal.slice_bounds-put_word-end
slice_bounds-put_word-end c = simp length-set (omega arith)

pub shape_of-s : goal.shape_of-s
shape_of-s c =
    let m = c.args.s.now in
    left_long (set (set m 0 1) 1 0) _ _ (simp length-set c.requires.0) c.put_word.ensures ∙ simp length-set

pub returns : goal.returns
returns c =
    let m = c.args.s.now in
    tests m c.requires.0 c.requires.1 _ c.put_word.ensures
