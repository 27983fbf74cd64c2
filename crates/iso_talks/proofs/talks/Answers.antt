-- `iso_talks::talks` meets its contract. Assumes nothing.
use Rattle.iso_talks.proofs.Places.{talks_flat}
use mathlib.Core.Bool.{◌&&◌}
use mathlib.Core.Path.{◌∙◌}
use Rattle.iso_talks.proofs.talks.Goals as goal

pub returns : goal.returns
returns c = (λ j. c.place.ensures j && c.place-2.ensures j) ∙ talks_flat c.args.flags c.args.s.now
