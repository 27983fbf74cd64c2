-- `opening_reader::set_up` meets its contract. Assumes nothing.
use mathlib.Core.Path.{ap, ◌∙◌}
use Rattle.telegram.proofs.Tests.{wrapped}
use Rattle.telegram.proofs.Opening.{kind_set_up}
use Rattle.telegram_types.specs.Face.{answering, said, opening_said}
use Rattle.opening_reader.proofs.set_up.Goals as goal

pub returns : goal.returns
unfolding said opening_said
returns c =
    c.only_if.ensures
    ∙ ap answering
    (rw (c.id.ensures, c.application.ensures, c.id_at-rx_id.ensures)
    (wrapped _ _ _ _ (kind_set_up _ c.requires.1)))
