-- `iso_settings::last_in` meets its contract. Assumes nothing.
use Rattle.iso_settings.proofs.Laws.{told}
use Rattle.iso_settings.proofs.last_in.Goals as goal

pub returns : goal.returns
returns c rates t = told _ c.requires rates t _ c.wide.ensures.0
