use mathlib.Core.Path.{sym, ap, ◌∙◌}
use mathlib.Core.Bool.{true, false}
use mathlib.Core.Option.{some}
use Rattle.telegram_types.specs.Face.{opening_said}
use Rattle.telegram_types.specs.declared.Opening.{Opening}
use Rattle.link.specs.Connection.{replied}
use Rattle.link_replies.specs.Meaning.{after_reply}
use Rattle.link_replies.proofs.Meanings.{positive_is, negative_is}
use borrow.Author.Tests.{eq-eqb, ne_eqb}
use Rattle.link_replies.proofs.meaning.Goals as goal

pub returns-then-destination-own : goal.returns-then-destination-own
unfolding after_reply opening_said
returns-then-destination-own c a n t bytes k =
    sym (ap (λ (o : Opening). replied a n t (some (opening_said o bytes))) c.in-Positive.is ∙ positive_is a n t c.args.own c.args.rx c.args.application k _ _ _ _ true c.if-destination-own.true)

pub returns-then-destination-own-2 : goal.returns-then-destination-own-2
unfolding after_reply opening_said
returns-then-destination-own-2 c a n t bytes k =
    sym (ap (λ (o : Opening). replied a n t (some (opening_said o bytes))) c.in-Negative.is ∙ negative_is a n t c.args.own c.args.rx c.args.application k _ _ bytes true (eq-eqb _ c.args.own c.if-destination-own-2.true))

pub returns-in-SetUp : goal.returns-in-SetUp
unfolding after_reply opening_said replied
returns-in-SetUp c a n t bytes k = sym (ap (λ (o : Opening). replied a n t (some (opening_said o bytes))) c.in-SetUp.is)

pub returns-else-destination-own : goal.returns-else-destination-own
unfolding after_reply opening_said
returns-else-destination-own c a n t bytes k =
    sym (ap (λ (o : Opening). replied a n t (some (opening_said o bytes))) c.in-Positive.is ∙ positive_is a n t c.args.own c.args.rx c.args.application k _ _ _ _ false c.if-destination-own.false)

pub returns-else-destination-own-2 : goal.returns-else-destination-own-2
unfolding after_reply opening_said
returns-else-destination-own-2 c a n t bytes k =
    sym (ap (λ (o : Opening). replied a n t (some (opening_said o bytes))) c.in-Negative.is ∙ negative_is a n t c.args.own c.args.rx c.args.application k _ _ bytes false (ne_eqb _ c.args.own c.if-destination-own-2.false))
