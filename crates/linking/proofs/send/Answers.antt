-- `linking::send` meets its contract. Assumes nothing.
use mathlib.Core.Path.{sym, ◌∙◌}
use Rattle.layout.proofs.Link.{link_there}
use Rattle.linking.proofs.Laws.{first_byte, send_wide, send_none, send_empty, send_long, send_busy, send_done}
use Rattle.linking.proofs.send.Goals as goal

pub returns-then-not-narrow : goal.returns-then-not-narrow
returns-then-not-narrow c =
    λ rates t. send_wide c.requires rates t _ (sym c.if-not-narrow.true ∙ c.narrow.ensures)

pub returns-then-r-ne-STANDING : goal.returns-then-r-ne-STANDING
returns-then-r-ne-STANDING c =
    λ rates t. send_none c.requires rates t _ (sym c.if-not-narrow.false ∙ c.narrow.ensures) c.if-r-ne-STANDING.true

pub returns-then-message-lt1 : goal.returns-then-message-lt1
returns-then-message-lt1 c =
    λ rates t. send_empty c.requires rates t _ (sym c.if-not-narrow.false ∙ c.narrow.ensures) c.if-r-ne-STANDING.false c.if-message-lt1.true

pub returns-then-message-gt-MOST_BYTES : goal.returns-then-message-gt-MOST_BYTES
returns-then-message-gt-MOST_BYTES c =
    λ rates t. send_long c.requires rates t _ (sym c.if-not-narrow.false ∙ c.narrow.ensures) c.if-r-ne-STANDING.false c.if-message-gt-MOST_BYTES.true

pub returns-then-busy : goal.returns-then-busy
returns-then-busy c =
    λ rates t. send_busy c.requires rates t _ (sym c.if-not-narrow.false ∙ c.narrow.ensures) c.if-r-ne-STANDING.false c.if-message-lt1.false c.if-message-gt-MOST_BYTES.false c.busy.ensures c.if-busy.true

pub begin-requires : goal.begin-requires
begin-requires c =
    (link_there _ c.requires, first_byte c.requires ∙ c.if-r-ne-STANDING.false, sym c.busy.ensures ∙ c.if-busy.false, c.if-message-gt-MOST_BYTES.false)

pub returns : goal.returns
returns c =
    λ rates t. send_done c.requires rates t _ (sym c.if-not-narrow.false ∙ c.narrow.ensures) c.if-r-ne-STANDING.false c.if-message-lt1.false c.if-message-gt-MOST_BYTES.false c.busy.ensures c.if-busy.false c.begin.ensures

pub busy-requires : goal.busy-requires
busy-requires c = link_there _ c.requires
