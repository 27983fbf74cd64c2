use mathlib.Core.Path.{refl, ap, ◌∙◌}
use Rattle.iso.specs.Iso.{gap_of}
use Rattle.talk_head.specs.Headed.{headed}
use Rattle.talk_hearing.proofs.Laws.{flow_none, flow_short, flow_on, flow_wait, flow_end}
use Rattle.talk_hearing.proofs.flow.Goals as goal

pub returns-then-h-ne-AWAITS : goal.returns-then-h-ne-AWAITS
returns-then-h-ne-AWAITS c = (flow_none c.args.h c.args.bytes.now c.if-h-ne-AWAITS.true, λ held. tt)

pub returns-then-bytes-lt-IN_FLOW : goal.returns-then-bytes-lt-IN_FLOW
returns-then-bytes-lt-IN_FLOW c = (flow_short c.args.h c.args.bytes.now c.if-h-ne-AWAITS.false c.if-bytes-lt-IN_FLOW.true, λ held. tt)

pub returns-then-status-eq0 : goal.returns-then-status-eq0
unfolding headed
returns-then-status-eq0 c = (
  flow_on c.args.h c.args.bytes.now c.if-h-ne-AWAITS.false c.if-bytes-lt-IN_FLOW.false _ c.low-status.ensures.0 c.if-status-eq0.true _ _ c.wide.ensures.0
      (c.gap_of.ensures ∙ ap gap_of c.wide-then-status-eq0.ensures.0),
  λ held p. refl,
)

pub returns-then-status-eq1 : goal.returns-then-status-eq1
unfolding headed
returns-then-status-eq1 c =
    (flow_wait c.args.h c.args.bytes.now c.if-h-ne-AWAITS.false c.if-bytes-lt-IN_FLOW.false _ c.low-status.ensures.0 c.if-status-eq0.false c.if-status-eq1.true, λ held p. refl)

pub returns : goal.returns
returns c = (flow_end c.args.h c.args.bytes.now c.if-h-ne-AWAITS.false c.if-bytes-lt-IN_FLOW.false _ c.low-status.ensures.0 c.if-status-eq0.false c.if-status-eq1.false, λ held. tt)
