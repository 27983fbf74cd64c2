-- `fault::bytes` meets its contract. Assumes nothing.
use native.Mathlib.Omega.{arith}
use mathlib.Core.Path.{sym, ◌∙◌}
use Rattle.fault.specs.Fault.{bytes_after}
use Rattle.fault.proofs.Parts.{stays, goes_on, bytes_there, bytes_cut}
use Rattle.fault.proofs.bytes.Goals as goal

pub returns-then-before-ne-GOOD : goal.returns-then-before-ne-GOOD
unfolding bytes_after
returns-then-before-ne-GOOD c = stays _ _ c.if-before-ne-GOOD.true

pub returns-then-at-recording : goal.returns-then-at-recording
unfolding bytes_after
returns-then-at-recording c = bytes_cut _ _ _ (omega (arith, c.if-at-recording.true)) ∙ sym (goes_on _ _ c.if-before-ne-GOOD.false)

pub returns-then-size-recording : goal.returns-then-size-recording
unfolding bytes_after
returns-then-size-recording c = bytes_cut _ _ _ (omega (arith, c.if-size-recording.true)) ∙ sym (goes_on _ _ c.if-before-ne-GOOD.false)

pub returns : goal.returns
unfolding bytes_after
returns c = bytes_there _ _ _ (omega (arith, c.if-size-recording.false)) ∙ sym (goes_on _ _ c.if-before-ne-GOOD.false)
