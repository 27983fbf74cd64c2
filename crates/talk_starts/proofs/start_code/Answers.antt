-- `talk_starts::start_code` meets its contract: its tests are those of a start, in their order. Assumes nothing.
use mathlib.Core.Path.{◌∙◌}
use mathlib.Core.Bool.{true, false}
use Rattle.machine.specs.Message.{bit}
use Rattle.talk_starts.proofs.Laws.{names_are, bad_type, bad_protocol_law, last_test}
use Rattle.talk_starts.proofs.start_code.Goals as goal

pub returns-then-kind-ne-FLOW_CONTROL : goal.returns-then-kind-ne-FLOW_CONTROL
returns-then-kind-ne-FLOW_CONTROL c =
    let a = c.args in
    bad_type a.flags a.kind a.m a.p a.f c.if-kind-ne-FLOW_CONTROL.true

pub returns-then-other : goal.returns-then-other
returns-then-other c =
    let a = c.args in
    bad_protocol_law a.flags a.kind a.m a.p a.f c.if-kind-ne-FLOW_CONTROL.false c.if-other.true

pub returns-then-sized-m : goal.returns-then-sized-m
unfolding bit
returns-then-sized-m c =
    let a = c.args in
    last_test a.flags a.kind a.m a.p a.f c.if-kind-ne-FLOW_CONTROL.false c.if-other.false true
    (names_are a.flags a.kind a.m a.p a.f _ _ c.id_limit-limit.ensures c.takes_width.ensures ∙ c.if-sized-m.true)

pub returns : goal.returns
unfolding bit
returns c =
    let a = c.args in
    last_test a.flags a.kind a.m a.p a.f c.if-kind-ne-FLOW_CONTROL.false c.if-other.false false
    (names_are a.flags a.kind a.m a.p a.f _ _ c.id_limit-limit.ensures c.takes_width.ensures ∙ c.if-sized-m.false)
