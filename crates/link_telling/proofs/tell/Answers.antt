-- `link_telling::tell` meets its contract: by the kind of telegram. Assumes nothing.
use mathlib.Core.Path.{sym, ap, ◌∙◌}
use mathlib.Core.Option.{some}
use Rattle.telegram_types.specs.Face.{channel_said}
use Rattle.link_layout.specs.Connection.{connection_part}
use Rattle.link_telling.specs.Telling.{heeds}
use Rattle.link_telling.proofs.Turns.{care_lent, talk_lent, is_answered, not_acknowledged, is_tested, is_broken, is_gone}
use Rattle.link_telling.proofs.tell.Goals as goal

pub answered-requires : goal.answered-requires
answered-requires c =
    let m = c.args.part.now in
    let p = care_lent m c.requires.0 c.requires.1 in (p.long, p.valid)

pub tested-requires : goal.tested-requires
tested-requires c =
    let m = c.args.part.now in
    let p = care_lent m c.requires.0 c.requires.1 in (p.long, p.valid)

pub break_off-requires : goal.break_off-requires
break_off-requires c =
    let m = c.args.part.now in
    let p = talk_lent m c.requires.0 c.requires.1 in (p.long, p.valid)

pub returns-in-Data : goal.returns-in-Data
unfolding channel_said
returns-in-Data c =
    let m = c.args.part.now in
    c.data.ensures ∙ sym (ap (λ t. connection_part.put (heeds (some (channel_said t c.args.bytes.now)) (connection_part.get m))) c.in-Data.is)

pub returns-in-Acknowledge : goal.returns-in-Acknowledge
unfolding channel_said
returns-in-Acknowledge c =
    let m = c.args.part.now in
    c.acknowledge.ensures ∙ sym (ap (λ t. connection_part.put (heeds (some (channel_said t c.args.bytes.now)) (connection_part.get m))) c.in-Acknowledge.is)

pub returns-then-ack : goal.returns-then-ack
unfolding channel_said
returns-then-ack c =
    let m = c.args.part.now in
    is_answered m c.requires.0 c.requires.1 c.in-Connection.ack c.in-Connection.block_size c.in-Connection.t1 c.in-Connection.t2 c.in-Connection.t3 c.in-Connection.t4 c.if-ack.true _ c.answered.ensures ∙ sym (ap (λ t. connection_part.put (heeds (some (channel_said t c.args.bytes.now)) (connection_part.get m))) c.in-Connection.is)

pub returns-else-ack : goal.returns-else-ack
unfolding channel_said
returns-else-ack c =
    let m = c.args.part.now in
    not_acknowledged m c.requires.0 c.requires.1 c.in-Connection.ack c.in-Connection.block_size c.in-Connection.t1 c.in-Connection.t2 c.in-Connection.t3 c.in-Connection.t4 c.if-ack.false ∙ sym (ap (λ t. connection_part.put (heeds (some (channel_said t c.args.bytes.now)) (connection_part.get m))) c.in-Connection.is)

pub returns-in-Test : goal.returns-in-Test
unfolding channel_said
returns-in-Test c =
    let m = c.args.part.now in
    is_tested m c.requires.0 c.requires.1 _ c.tested.ensures ∙ sym (ap (λ t. connection_part.put (heeds (some (channel_said t c.args.bytes.now)) (connection_part.get m))) c.in-Test.is)

pub returns-in-Break : goal.returns-in-Break
unfolding channel_said
returns-in-Break c =
    let m = c.args.part.now in
    is_broken m c.requires.0 c.requires.1 _ c.break_off.ensures ∙ sym (ap (λ t. connection_part.put (heeds (some (channel_said t c.args.bytes.now)) (connection_part.get m))) c.in-Break.is)

pub returns-in-Disconnect : goal.returns-in-Disconnect
unfolding channel_said
returns-in-Disconnect c =
    let m = c.args.part.now in
    is_gone m c.requires.0 c.requires.1 _ c.zero.ensures ∙ sym (ap (λ t. connection_part.put (heeds (some (channel_said t c.args.bytes.now)) (connection_part.get m))) c.in-Disconnect.is)
