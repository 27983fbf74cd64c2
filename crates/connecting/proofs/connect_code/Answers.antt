use mathlib.Core.Path.{sym, ◌∙◌}
use Rattle.connecting.proofs.Laws.{bad_protocol_law, bad_flags, bad_rate, good_connect}
use Rattle.connecting.proofs.connect_code.Goals as goal

pub returns-then-protocol-ne-PROTOCOL : goal.returns-then-protocol-ne-PROTOCOL
returns-then-protocol-ne-PROTOCOL c =
    bad_protocol_law _ _ _ _ c.if-protocol-ne-PROTOCOL.true

pub returns-then-not-is_raw_flags : goal.returns-then-not-is_raw_flags
returns-then-not-is_raw_flags c =
    bad_flags _ _ _ _ c.if-protocol-ne-PROTOCOL.false (sym c.is_raw_flags.ensures ∙ c.if-not-is_raw_flags.true)

pub returns-then-not-is_rate : goal.returns-then-not-is_rate
returns-then-not-is_rate c =
    bad_rate _ _ _ _ c.if-protocol-ne-PROTOCOL.false (sym c.is_raw_flags.ensures ∙ c.if-not-is_raw_flags.false) (sym c.is_rate.ensures ∙ c.if-not-is_rate.true)

pub returns : goal.returns
returns c =
    good_connect _ _ _ _ c.if-protocol-ne-PROTOCOL.false (sym c.is_raw_flags.ensures ∙ c.if-not-is_raw_flags.false) (sym c.is_rate.ensures ∙ c.if-not-is_rate.false)
