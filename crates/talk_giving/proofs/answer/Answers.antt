-- `talk_giving::answer` meets its contract: read, turned, stored, told. Assumes nothing.
use mathlib.Core.Path.{sym, ap, ◌∙◌}
use Prim.Native.Nat.{ℕ}
use native.Mathlib.Omega.{arith}
use mathlib.Core.List.{[]}
use Rattle.iso.specs.Iso.{answer_of, flow_frame}
use Rattle.talk_head.specs.Headed.{settled}
use Rattle.framing.specs.Data.{carried}
use Rattle.talk_giving.proofs.Laws.{free_gave, answers_one, answers_none, some_talk}
use Rattle.talk_giving.proofs.answer.Goals as goal

-- src/lib.rt:97:9
pub returns-then-t-eq0 : goal.returns-then-t-eq0
returns-then-t-eq0 c =
    (λ k. free_gave c.args.t.now c.requires.0 (λ c'. answer_of k c' c'.transfer) [] c.if-t-eq0.true, omega arith)

-- src/lib.rt:102:9
pub returns-then-flow_waits : goal.returns-then-flow_waits
returns-then-flow_waits c =
    let t = c.args.t.now in
    let head = c.head_in-h in
    let waits = c.flow_waits in
    let next = c.flow_taken in
    let settle = c.settle in
    let status = c.flow_status in
    let flow = c.flow in
    let h = head.result in (
      λ k.
          answers_one t c.requires.0 c.if-t-eq0.false h head.ensures k flow.result flow.new.d settle.new.t (sym waits.ensures ∙ c.if-flow_waits.true)
          (λ c'. (flow.ensures c').0 ∙ ap (λ (n : ℕ). carried (flow_frame c' n)) status.ensures.0) (settle.ensures ∙ ap (λ y. settled y t) next.ensures),
      (flow.ensures some_talk).1,
    )

-- src/lib.rt:92:1
pub returns : goal.returns
returns c =
    let head = c.head_in-h in
    let waits = c.flow_waits in (
      λ k. answers_none c.args.t.now c.requires.0 c.if-t-eq0.false head.result head.ensures k [] (sym waits.ensures ∙ c.if-flow_waits.false),
      omega arith,
    )
