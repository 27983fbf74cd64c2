-- `zeros::no_record` meets its contract: four times eight bytes, then four. Assumes nothing.
use Rattle.zeros.proofs.Tail.{no_record}
use lib.Dec.{eqb}
use mathlib.Core.Bool.{◌&&◌}
use mathlib.Core.Path.{◌∙◌}
use Rattle.zeros.proofs.no_record.Goals as goal

pub returns : goal.returns
returns c = let w = c.word_at.ensures in
    (λ j. c.eight_end.ensures j && c.eight_end-2.ensures j && c.eight_end-3.ensures j && c.eight_end-4.ensures j && eqb (w.0 j) 0)
    ∙ no_record c.args.s.now w.1 c.args.at c.requires
