-- `talk_times::later` meets its contract: by its kind. Assumes nothing.
use mathlib.Core.Path.{sym, ap, ◌∙◌, subst}
use Prim.Native.Nat.{ℕ}
use Rattle.iso.specs.Iso.{later_transfer}
use Rattle.talk_head.specs.Headed.{Tells, remains}
use Rattle.talk_times.specs.Timed.{timed}
use Rattle.talk_times.proofs.Times.{later_told, waits_later, sends_later, else_later}
use Rattle.talk_times.proofs.later.Goals as goal

pub returns-then-h : goal.returns-then-h
returns-then-h c =
    let us = c.args.us in
    let h = c.args.h in
    λ b x e.
    subst (λ r. Tells r (remains r b) (later_transfer us x)) (sym (c.waited.ensures ∙ waits_later us h c.if-h.true)) (later_told us h b x e)

pub returns-then-h-eq6 : goal.returns-then-h-eq6
returns-then-h-eq6 c =
    let us = c.args.us in
    let h = c.args.h in
    λ b x e.
    subst (λ r. Tells r (remains r b) (later_transfer us x))
    (sym (c.timed_head.ensures ∙ ap (λ (n : ℕ). timed h n) c.less-wait.ensures ∙ sends_later us h c.if-h.false c.if-h-eq6.true)) (later_told us h b x e)

pub returns : goal.returns
returns c =
    let us = c.args.us in
    let h = c.args.h in
    λ b x e. subst (λ r. Tells r (remains r b) (later_transfer us x)) (sym (else_later us h c.if-h.false c.if-h-eq6.false)) (later_told us h b x e)
