-- `iso_connecting::connect_code` meets its contract. Assumes nothing.
use mathlib.Core.Path.{sym, ◌∙◌}
use Rattle.iso_connecting.proofs.Laws.{bad_protocol_law, no_listener, good_protocol}
use Rattle.iso_connecting.proofs.connect_code.Goals as goal

pub returns-then-protocol-ne-PROTOCOL : goal.returns-then-protocol-ne-PROTOCOL
returns-then-protocol-ne-PROTOCOL c = bad_protocol_law _ _ _ _ c.if-protocol-ne-PROTOCOL.true

pub returns-then-listens : goal.returns-then-listens
returns-then-listens c = no_listener _ _ _ _ c.if-protocol-ne-PROTOCOL.false (sym c.listens.ensures ∙ c.if-listens.true)

pub returns : goal.returns
returns c = good_protocol _ _ _ _ c.if-protocol-ne-PROTOCOL.false (sym c.listens.ensures ∙ c.if-listens.false) _ c.connect_code.ensures
