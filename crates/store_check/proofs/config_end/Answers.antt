-- `store_check::config_end` meets its contract: a rate of those lent, and 0 or 1. Assumes nothing.
use mathlib.Core.Path.{sym, ap, ◌∙◌}
use Rattle.store_records.specs.Places.{place_of}
use Rattle.store_records.proofs.Parts.{number_good, number_bad}
use Rattle.store_check.proofs.Whole.{no_rate, rate_refused, no_loopback, config_taken}
use Rattle.store_check.proofs.config_end.Goals as goal

pub returns-in_err-rate : goal.returns-in_err-rate
returns-in_err-rate c = ap place_of c.from_residual.ensures ∙ no_rate _ _ _ (number_bad _ _ c.in_err-rate.ensures)

pub returns-then-not-is_rate : goal.returns-then-not-is_rate
returns-then-not-is_rate c = rate_refused _ _ _ (number_good _ _ c.in_ok-rate.ensures) (sym c.is_rate.ensures ∙ c.if-not-is_rate.true)

pub returns-in_err-loopback : goal.returns-in_err-loopback
returns-in_err-loopback c =
    ap place_of c.from_residual-in_err-loopback.ensures
    ∙ no_loopback _ _ _ (number_good _ _ c.in_ok-rate.ensures) (sym c.is_rate.ensures ∙ c.if-not-is_rate.false) (sym c.in_err-loopback.ensures)

pub returns : goal.returns
returns c = config_taken _ _ _ (number_good _ _ c.in_ok-rate.ensures) (sym c.is_rate.ensures ∙ c.if-not-is_rate.false) (sym c.in_ok-loopback.ensures)
