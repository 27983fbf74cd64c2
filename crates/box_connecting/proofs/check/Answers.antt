-- `box_connecting::check` meets its contract. Assumes nothing.
use Rattle.box_connecting.proofs.Laws.{of_iso, of_others}
use Rattle.box_connecting.proofs.check.Goals as goal

pub returns-then-protocol-eq-PROTOCOL : goal.returns-then-protocol-eq-PROTOCOL
returns-then-protocol-eq-PROTOCOL c = of_iso _ _ _ _ c.if-protocol-eq-PROTOCOL.true _ c.connect_code.ensures

pub returns : goal.returns
returns c = of_others _ _ _ _ c.if-protocol-eq-PROTOCOL.false _ c.connect_code-2.ensures
