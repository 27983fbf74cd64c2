-- `box_connecting::connect` meets its contract. Assumes nothing.
use Rattle.box_connecting.proofs.Laws.{no_line, no_protocol, as_named}
use Rattle.box_connecting.proofs.connect.Goals as goal

pub returns-then-line-ge-LINES : goal.returns-then-line-ge-LINES
returns-then-line-ge-LINES c = c.no_channel.ensures _ _ c.requires (no_line _ _ c.if-line-ge-LINES.true)

pub connect_raw-requires : goal.connect_raw-requires
connect_raw-requires c = (c.requires, c.if-line-ge-LINES.false)

pub returns-then-protocol-eq-PROTOCOL : goal.returns-then-protocol-eq-PROTOCOL
returns-then-protocol-eq-PROTOCOL c = as_named _ _ _ _ _ _ _ _ c.if-protocol-eq-PROTOCOL.true c.connect_raw.ensures

pub connect_iso-requires : goal.connect_iso-requires
connect_iso-requires c = (c.requires, c.if-line-ge-LINES.false)

pub returns-then-protocol-eq-PROTOCOL-2 : goal.returns-then-protocol-eq-PROTOCOL-2
returns-then-protocol-eq-PROTOCOL-2 c = as_named _ _ _ _ _ _ _ _ c.if-protocol-eq-PROTOCOL-2.true c.connect_iso.ensures

pub returns : goal.returns
returns c = c.no_channel-2.ensures _ _ c.requires (no_protocol _ _ c.if-protocol-eq-PROTOCOL.false c.if-protocol-eq-PROTOCOL-2.false)
