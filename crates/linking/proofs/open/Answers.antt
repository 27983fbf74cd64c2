-- `linking::open` meets its contract. Assumes nothing.
use mathlib.Core.Path.{sym, ◌∙◌}
use Rattle.codec.proofs.Tests.{true_T}
use Rattle.layout.proofs.Link.{link_there}
use Rattle.linking.proofs.Laws.{first_byte, open_wide, open_unfit, open_there, open_done}
use Rattle.linking.proofs.open.Goals as goal

pub returns-then-not-narrow : goal.returns-then-not-narrow
returns-then-not-narrow c =
    λ rates t. open_wide c.requires rates t _ (sym c.if-not-narrow.true ∙ c.narrow.ensures)

pub returns-then-not-asked_fits : goal.returns-then-not-asked_fits
returns-then-not-asked_fits c =
    λ rates t. open_unfit c.requires rates t _ (sym c.if-not-narrow.false ∙ c.narrow.ensures) (sym c.if-not-asked_fits.true ∙ c.asked_fits.ensures)

pub returns-then-r-ne0 : goal.returns-then-r-ne0
returns-then-r-ne0 c =
    λ rates t. open_there c.requires rates t _ (sym c.if-not-narrow.false ∙ c.narrow.ensures) (sym c.if-not-asked_fits.false ∙ c.asked_fits.ensures) c.if-r-ne0.true

pub open-requires : goal.open-requires
open-requires c =
    (link_there _ c.requires, first_byte c.requires ∙ c.if-r-ne0.false, true_T _ (sym (sym c.if-not-asked_fits.false ∙ c.asked_fits.ensures)))

pub returns : goal.returns
returns c =
    λ rates t. open_done c.requires rates t _ (sym c.if-not-narrow.false ∙ c.narrow.ensures) (sym c.if-not-asked_fits.false ∙ c.asked_fits.ensures) c.if-r-ne0.false c.open.ensures
