-- `store_check::number_within` meets its contract. Assumes nothing.
use mathlib.Core.Option.{bind}
use mathlib.Core.Path.{sym, ◌∙◌}
use Rattle.number.specs.Reads.{◌>>=◌, done, bad, where_true, only}
use Rattle.store_records.proofs.Parts.{number_good, number_bad}
use Rattle.store_check.proofs.number_within.Goals as goal

pub returns-in_err-number : goal.returns-in_err-number
unfolding only ◌>>=◌ bind
returns-in_err-number c = rw (c.from_residual.ensures, number_bad _ _ c.in_err-number.ensures)

pub returns-then-not-between : goal.returns-then-not-between
unfolding only ◌>>=◌ bind where_true bad
returns-then-not-between c = rw (number_good _ _ c.in_ok-number.ensures, sym c.between.ensures ∙ c.if-not-between.true)

pub returns : goal.returns
unfolding only ◌>>=◌ bind where_true done
returns c = rw (number_good _ _ c.in_ok-number.ensures, sym c.between.ensures ∙ c.if-not-between.false)
