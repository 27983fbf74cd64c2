-- `iso_settings::note` meets its contract. Assumes nothing.
use Rattle.iso_settings.proofs.Laws.{not_noted, noted}
use Rattle.iso_settings.proofs.note.Goals as goal

pub returns-then-code-eq-STATUS_NOERROR : goal.returns-then-code-eq-STATUS_NOERROR
returns-then-code-eq-STATUS_NOERROR c = not_noted _ _ _ c.if-code-eq-STATUS_NOERROR.true

pub returns : goal.returns
returns c = noted _ _ _ c.if-code-eq-STATUS_NOERROR.false
