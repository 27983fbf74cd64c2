-- `talk_landing::sent_head` meets its contract: by its kind. Assumes nothing.
use mathlib.Core.Path.{sym, ◌∙◌, subst}
use Rattle.iso.specs.Iso.{sent_of}
use Rattle.talk_head.specs.Headed.{Tells, remains}
use Rattle.talk_times.specs.Timed.{timed}
use Rattle.talk_landing.proofs.Sent.{sent_told, received_sent, first_sent, next_sent, else_sent}
use Rattle.talk_landing.proofs.sent_head.Goals as goal

pub returns-then-h-eq2 : goal.returns-then-h-eq2
unfolding timed
returns-then-h-eq2 c =
    let args = c.args in
    λ b x s e. subst (λ r. Tells r (remains r b) (sent_of x)) (sym (received_sent args.h args.size c.if-h-eq2.true)) (sent_told args.h args.size b x s e)

pub returns-then-h-eq3 : goal.returns-then-h-eq3
returns-then-h-eq3 c =
    let args = c.args in
    λ b x s e. subst (λ r. Tells r (remains r b) (sent_of x)) (sym (c.awaits.ensures ∙ first_sent args.h args.size c.if-h-eq2.false c.if-h-eq3.true)) (sent_told args.h args.size b x s e)

pub returns-then-h-eq5 : goal.returns-then-h-eq5
returns-then-h-eq5 c =
    let args = c.args in
    λ b x s e. subst (λ r. Tells r (remains r b) (sent_of x)) (sym (c.next.ensures ∙ next_sent args.h args.size c.if-h-eq2.false c.if-h-eq3.false c.if-h-eq5.true)) (sent_told args.h args.size b x s e)

pub returns : goal.returns
returns c =
    let args = c.args in
    λ b x s e. subst (λ r. Tells r (remains r b) (sent_of x)) (sym (else_sent args.h args.size c.if-h-eq2.false c.if-h-eq3.false c.if-h-eq5.false)) (sent_told args.h args.size b x s e)
