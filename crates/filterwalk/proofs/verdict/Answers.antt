-- `filterwalk::verdict` meets its contract: no pass filter has to be looked at where a block filter matches. Assumes nothing.
use mathlib.Core.Path.{sym, ◌∙◌}
use native.Mathlib.Omega.{arith}
use Rattle.filterwalk.proofs.Looks.{none_hits, blocked, not_blocked}
use Rattle.filterwalk.proofs.verdict.Goals as goal

pub returns-then-none_of : goal.returns-then-none_of
returns-then-none_of c =
    not_blocked _ _ _ _ _ (none_hits _ _ _ 2 _ _ c.requires.0 (omega arith) (omega arith) (sym c.if-none_of.true ∙ c.none_of.ensures)) c.wanted.ensures

pub returns-then-hits : goal.returns-then-hits
returns-then-hits c = blocked _ _ _ _ (sym c.if-hits.true ∙ c.hits.ensures)

pub returns : goal.returns
returns c = not_blocked _ _ _ _ _ (sym c.if-hits.false ∙ c.hits.ensures) c.wanted-2.ensures
