-- `can::is_known_rate` meets its contract: the list of rates, test by test. Assumes nothing.
use mathlib.Core.Bool.{or-false}
use Rattle.machine.specs.Codes.{three_rates}
use Rattle.codec.specs.Plain.{member}
use lib.Dec.{eqb}
use mathlib.Core.Bool.{Bool, ◌||◌}
use mathlib.Core.Path.{sym, ap}
use Rattle.can.proofs.is_known_rate.Goals as goal

pub returns : goal.returns
unfolding three_rates member
returns c = let r = c.args.rate in ap (λ (b : Bool). eqb r 125000 || (eqb r 250000 || b)) (sym (or-false (eqb r 500000)))
