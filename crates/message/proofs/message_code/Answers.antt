-- `message::message_code` meets its contract: the checks with the limits of raw CAN. Assumes nothing.
use mathlib.Core.Path.{◌∙◌}
use Rattle.message.proofs.Laws.{raw_checks}
use Rattle.message.proofs.message_code.Goals as goal

pub returns : goal.returns
returns c = c.code_within.ensures ∙ raw_checks _ _
