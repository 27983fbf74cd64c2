-- `linking::end` meets its contract. Assumes nothing.
use mathlib.Core.Path.{sym, ◌∙◌}
use Rattle.layout.proofs.Link.{link_there}
use Rattle.linking.proofs.Laws.{end_wide, end_none, end_leaving, end_done}
use Rattle.linking.proofs.end.Goals as goal

pub returns-then-not-narrow : goal.returns-then-not-narrow
returns-then-not-narrow c =
    λ rates t. end_wide c.requires rates t (sym c.if-not-narrow.true ∙ c.narrow.ensures)

pub returns-then-r-lt-OPENING : goal.returns-then-r-lt-OPENING
returns-then-r-lt-OPENING c =
    λ rates t. end_none c.requires rates t (sym c.if-not-narrow.false ∙ c.narrow.ensures) c.if-r-lt-OPENING.true

pub returns-then-r-gt-STANDING : goal.returns-then-r-gt-STANDING
returns-then-r-gt-STANDING c =
    λ rates t. end_leaving c.requires rates t (sym c.if-not-narrow.false ∙ c.narrow.ensures) c.if-r-gt-STANDING.true

pub returns : goal.returns
returns c =
    λ rates t. end_done c.requires rates t (sym c.if-not-narrow.false ∙ c.narrow.ensures) c.if-r-lt-OPENING.false c.if-r-gt-STANDING.false c.end.ensures

pub end-requires : goal.end-requires
end-requires c = link_there _ c.requires
