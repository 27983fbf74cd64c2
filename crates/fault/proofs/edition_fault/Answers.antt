-- `fault::edition_fault` meets its contract. Assumes nothing.
use Prim.Native.Nat.{ℕ}
use mathlib.Core.Path.{◌∙◌}
use Rattle.fault.specs.Fault.{spot}
use Rattle.fault.proofs.Parts.{number_is, number_is_not, elsewhere, at_start}
use Rattle.fault.proofs.edition_fault.Goals as goal

pub returns-then-at-ne0 : goal.returns-then-at-ne0
returns-then-at-ne0 c = elsewhere _ _ _ c.if-at-ne0.true

pub returns-then-is_none : goal.returns-then-is_none
returns-then-is_none c = number_is_not _ _ (spot 8 _) _ c.read_number.ensures c.if-is_none.ensures c.why-reason.ensures ∙ at_start _ _ _ c.if-at-ne0.false

pub returns : goal.returns
returns c = number_is _ _ (spot 8 _) _ c.read_number.ensures c.if-is_none.ensures ∙ at_start _ _ _ c.if-at-ne0.false
