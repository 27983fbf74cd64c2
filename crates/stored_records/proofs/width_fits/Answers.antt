-- `stored_records::width_fits` meets its contract. Assumes nothing.
use Rattle.layout.specs.Record.{width_fits}
use lib.Dec.{leb}
use mathlib.Core.Bool.{◌&&◌}
use Rattle.stored_records.proofs.width_fits.Goals as goal

pub returns : goal.returns
unfolding width_fits
returns c = λ j. leb (c.id_at.ensures j) (c.id_limit.ensures j) && c.takes_width.ensures j
