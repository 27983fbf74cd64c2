-- `linking::receive` meets its contract. Assumes nothing.
use mathlib.Core.Path.{sym, ◌∙◌}
use Rattle.layout.proofs.Link.{link_there}
use Rattle.linking.proofs.Laws.{fetch_fits, receive_short, receive_wide, receive_none, receive_nothing, receive_done}
use Rattle.linking.proofs.receive.Goals as goal

pub returns-then-buffer-lt-MOST_BYTES : goal.returns-then-buffer-lt-MOST_BYTES
returns-then-buffer-lt-MOST_BYTES c =
    λ rates t. receive_short c.requires rates t _ c.if-buffer-lt-MOST_BYTES.true

pub returns-then-not-narrow : goal.returns-then-not-narrow
returns-then-not-narrow c =
    λ rates t. receive_wide c.requires rates t _ c.if-buffer-lt-MOST_BYTES.false (sym c.if-not-narrow.true ∙ c.narrow.ensures)

pub returns-then-r-ne-STANDING : goal.returns-then-r-ne-STANDING
returns-then-r-ne-STANDING c =
    λ rates t. receive_none c.requires rates t _ c.if-buffer-lt-MOST_BYTES.false (sym c.if-not-narrow.false ∙ c.narrow.ensures) c.if-r-ne-STANDING.true

pub returns-then-n-eq0 : goal.returns-then-n-eq0
returns-then-n-eq0 c =
    λ rates t. receive_nothing c.requires rates t _ c.if-buffer-lt-MOST_BYTES.false (sym c.if-not-narrow.false ∙ c.narrow.ensures) c.if-r-ne-STANDING.false c.complete-n.ensures.0 c.if-n-eq0.true

pub fetch-requires : goal.fetch-requires
fetch-requires c =
    fetch_fits c.requires c.complete-n.ensures c.if-n-eq0.false c.if-buffer-lt-MOST_BYTES.false

pub returns : goal.returns
returns c =
    λ rates t. receive_done c.requires rates t _ c.if-buffer-lt-MOST_BYTES.false (sym c.if-not-narrow.false ∙ c.narrow.ensures) c.if-r-ne-STANDING.false c.complete-n.ensures.0 c.if-n-eq0.false c.fetch.ensures.0 c.fetch.ensures.1

pub complete-n-requires : goal.complete-n-requires
complete-n-requires c = link_there _ c.requires
