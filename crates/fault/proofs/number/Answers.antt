-- `fault::number` meets its contract. Assumes nothing.
use Prim.Native.Nat.{ℕ}
use mathlib.Core.Path.{sym, ◌∙◌}
use Rattle.fault.specs.Fault.{spot, number_after}
use Rattle.fault.proofs.Parts.{stays, goes_on, number_good, number_bad}
use Rattle.fault.proofs.number.Goals as goal

pub returns-then-before-ne-GOOD : goal.returns-then-before-ne-GOOD
unfolding number_after
returns-then-before-ne-GOOD c = stays _ _ c.if-before-ne-GOOD.true

pub returns-in_default : goal.returns-in_default
unfolding number_after
returns-in_default c = number_bad _ _ (λ (v n : ℕ). spot 0 n) _ c.read_number.ensures c.in_default.is c.why-reason.ensures ∙ sym (goes_on _ _ c.if-before-ne-GOOD.false)

pub returns : goal.returns
unfolding number_after
returns c = number_good _ _ (λ (v n : ℕ). spot 0 n) _ c.read_number.ensures c.in-Some.is ∙ sym (goes_on _ _ c.if-before-ne-GOOD.false)
