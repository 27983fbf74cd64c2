-- `talk_landing::next` meets its contract: all sent, a block sent, a frame sent. Assumes nothing.
use mathlib.Core.Path.{◌∙◌}
use mathlib.Core.Bool.{false}
use Rattle.talk_times.specs.Timed.{idle_head}
use Rattle.talk_landing.proofs.Sent.{all_sent, block_sent, frame_sent}
use Rattle.talk_landing.proofs.next.Goals as goal

pub returns-then-size-h : goal.returns-then-size-h
unfolding idle_head
returns-then-size-h c = let args = c.args in all_sent args.h args.size c.if-size-h.true

pub returns-then-h-eq1 : goal.returns-then-h-eq1
returns-then-h-eq1 c = let args = c.args in c.awaits.ensures ∙ block_sent args.h args.size c.if-size-h.false c.if-h-eq1.true

pub returns : goal.returns
returns c =
    let args = c.args in
    (λ i. record { kind = 6; n = args.h.n; time = args.h.gap; left = c.fewer-left.ensures i; gap = args.h.gap; waits = false })
    ∙ frame_sent args.h args.size c.if-size-h.false c.if-h-eq1.false
