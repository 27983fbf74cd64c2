-- `iso_records::message_code` meets its contract: the checks with the limits of ISO 15765. Assumes nothing.
use mathlib.Core.Path.{◌∙◌}
use Rattle.iso_records.proofs.Laws.{checks}
use Rattle.iso_records.proofs.message_code.Goals as goal

pub returns : goal.returns
returns c = c.code_within.ensures ∙ checks _ _
