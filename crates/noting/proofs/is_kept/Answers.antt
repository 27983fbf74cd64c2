-- `noting::is_kept` meets its contract: some code of the list is this one. Assumes nothing.
use mathlib.Core.Path.{◌∙◌}
use Rattle.machine.specs.Codes.{call_codes}
use Rattle.noting.proofs.Laws.{any_member}
use Rattle.noting.proofs.is_kept.Goals as goal

pub returns : goal.returns
unfolding call_codes
returns c = c.contains.ensures.value ∙ any_member c.args.code _
