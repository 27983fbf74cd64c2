-- `seats::begins` meets its contract. Assumes nothing.
use mathlib.Core.Path.{sym}
use native.Mathlib.Omega.{arith}
use Rattle.seats.proofs.Laws.{place_raw, place_iso}
use Rattle.seats.proofs.begins.Goals as goal

pub returns-then-number-gt-LINES : goal.returns-then-number-gt-LINES
returns-then-number-gt-LINES c = sym (place_iso _ (omega arith))

pub returns : goal.returns
returns c = sym (place_raw _ (omega arith))
