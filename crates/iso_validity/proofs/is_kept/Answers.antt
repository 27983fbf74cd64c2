-- `iso_validity::is_kept` meets its contract: some code of the list is this one. Assumes nothing.
use mathlib.Core.Path.{◌∙◌}
use Rattle.iso.specs.Iso.{iso_codes}
use Rattle.noting.proofs.Laws.{any_member}
use Rattle.iso_validity.proofs.is_kept.Goals as goal

pub returns : goal.returns
unfolding iso_codes
returns c = c.contains.ensures.value ∙ any_member c.args.code _
