-- `fault::pieces` meets its contract. Assumes nothing.
use native.Mathlib.Nat.{mul-le-mul}
use native.Mathlib.Omega.{arith}
use mathlib.Core.Path.{sym, ◌∙◌}
use Rattle.fault.specs.Fault.{pieces_from, pieces_after}
use Rattle.fault.proofs.Parts.{stays, goes_on, number_good, number_bad, too_many, few_enough}
use Rattle.fault.proofs.pieces.Goals as goal

pub returns-then-before-ne-GOOD : goal.returns-then-before-ne-GOOD
unfolding pieces_after
returns-then-before-ne-GOOD c = stays _ _ c.if-before-ne-GOOD.true

pub returns-in_default : goal.returns-in_default
unfolding pieces_after
returns-in_default c = number_bad _ _ (pieces_from _ _ _) _ c.read_number.ensures c.in_default.is c.why-reason.ensures ∙ sym (goes_on _ _ c.if-before-ne-GOOD.false)

pub returns-then-n-gt-MOST : goal.returns-then-n-gt-MOST
unfolding pieces_after
returns-then-n-gt-MOST c =
    let a = c.args in
    too_many a.unit a.recording.now a.before.at _ _ c.if-n-gt-MOST.true
    ∙ number_good _ _ (pieces_from a.unit a.recording.now a.before.at) _ c.read_number.ensures c.in-Some.is ∙ sym (goes_on _ _ c.if-before-ne-GOOD.false)

pub overflow_mul-unit : goal.overflow_mul-unit
overflow_mul-unit c = omega (arith, mul-le-mul c.requires c.if-n-gt-MOST.false)

pub returns : goal.returns
unfolding pieces_after
returns c =
    let a = c.args in
    c.bytes.ensures ∙ few_enough a.unit a.recording.now a.before.at _ _ c.if-n-gt-MOST.false
    ∙ number_good _ _ (pieces_from a.unit a.recording.now a.before.at) _ c.read_number.ensures c.in-Some.is ∙ sym (goes_on _ _ c.if-before-ne-GOOD.false)
