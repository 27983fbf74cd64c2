-- `verdict::by_list` meets its contract: without a filter that could turn it, the verdict stands. Assumes nothing.
use mathlib.Core.Path.{sym, ◌∙◌}
use Rattle.verdict.proofs.ByMaps.{stands, of_rows}
use Rattle.verdict.proofs.by_list.Goals as goal

pub returns-then-none_of : goal.returns-then-none_of
returns-then-none_of c =
    stands c.args.heads.now _ _ c.args.wide _ c.requires.1 c.args.passed _ c.turning.ensures (sym c.if-none_of.true ∙ c.none_of.ensures)

pub returns : goal.returns
returns c = of_rows _ _ _ _ _ _ _ _ _ c.rows-masks.ensures c.rows-patterns.ensures c.verdict.ensures
