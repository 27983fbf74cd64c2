-- `opening_reader::positive` meets its contract. Assumes nothing.
use mathlib.Core.Path.{ap, ◌∙◌}
use Rattle.telegram.proofs.Tests.{wrapped}
use Rattle.telegram.proofs.Opening.{kind_positive}
use Rattle.telegram_types.specs.Face.{answering, said, opening_said}
use Rattle.opening_reader.proofs.positive.Goals as goal

pub returns : goal.returns
unfolding said opening_said
returns c =
    c.only_if.ensures
    ∙ ap answering
    (rw (c.id.ensures, c.id-2.ensures, c.application.ensures, c.id_at-tx_id.ensures, c.id_at-rx_id.ensures)
    (wrapped _ _ _ _ (kind_positive _ c.requires.1)))
