-- `store_check::body_at` meets its contract: the version, and in version 2 the flags behind it. Assumes nothing.
use mathlib.Core.Path.{ap, ◌∙◌}
use Rattle.store_records.specs.Places.{place_of}
use Rattle.store_records.proofs.Parts.{number_good, number_bad}
use Rattle.store_check.proofs.Whole.{no_version, old_refused, old_taken, unknown_version, no_flags, new_refused, new_taken}
use Rattle.store_check.proofs.body_at.Goals as goal

pub returns-in_err-version : goal.returns-in_err-version
returns-in_err-version c = ap place_of c.from_residual.ensures ∙ no_version _ _ (number_bad _ _ c.in_err-version.ensures)

pub returns-then-flags-ne0 : goal.returns-then-flags-ne0
returns-then-flags-ne0 c = old_refused _ _ (number_good _ _ c.in_ok-version.ensures) c.if-version-eq1.true c.if-flags-ne0.true

pub returns-then-version-eq1 : goal.returns-then-version-eq1
returns-then-version-eq1 c = old_taken _ _ (number_good _ _ c.in_ok-version.ensures) c.if-version-eq1.true c.if-flags-ne0.false

pub returns-then-version-ne2 : goal.returns-then-version-ne2
returns-then-version-ne2 c = unknown_version _ _ (number_good _ _ c.in_ok-version.ensures) c.if-version-eq1.false c.if-version-ne2.true

pub returns-in_err-own : goal.returns-in_err-own
returns-in_err-own c =
    ap place_of c.from_residual-in_err-own.ensures
    ∙ no_flags _ _ (number_good _ _ c.in_ok-version.ensures) c.if-version-eq1.false c.if-version-ne2.false (number_bad _ _ c.in_err-own.ensures)

pub returns-then-own-flags : goal.returns-then-own-flags
returns-then-own-flags c =
    new_refused _ _ (number_good _ _ c.in_ok-version.ensures) c.if-version-eq1.false c.if-version-ne2.false (number_good _ _ c.in_ok-own.ensures) c.if-own-flags.true

pub returns : goal.returns
returns c = new_taken _ _ (number_good _ _ c.in_ok-version.ensures) c.if-version-eq1.false c.if-version-ne2.false (number_good _ _ c.in_ok-own.ensures) c.if-own-flags.false
