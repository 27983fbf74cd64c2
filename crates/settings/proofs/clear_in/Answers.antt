use Rattle.settings.proofs.Laws.{clear_written, clear_queue, clear_periodics, clear_filters, clear_unknown}
use Rattle.settings.proofs.clear_in.Goals as goal

pub returns-then-kind-eq1 : goal.returns-then-kind-eq1
returns-then-kind-eq1 c =
    λ rates t. clear_written c.args.r.now c.requires rates t _ c.if-kind-eq1.true _ c.zero.ensures

pub returns-then-kind-eq2 : goal.returns-then-kind-eq2
returns-then-kind-eq2 c =
    λ rates t. clear_queue c.args.r.now c.requires rates t _ c.if-kind-eq2.true _ c.zero-then-kind-eq2.ensures

pub returns-then-kind-eq3 : goal.returns-then-kind-eq3
returns-then-kind-eq3 c =
    λ rates t. clear_periodics c.args.r.now c.requires rates t _ c.if-kind-eq3.true _ c.zero-then-kind-eq3.ensures

pub returns-then-kind-eq4 : goal.returns-then-kind-eq4
returns-then-kind-eq4 c =
    λ rates t. clear_filters c.args.r.now c.requires rates t _ c.if-kind-eq4.true _ c.zero-then-kind-eq4.ensures

pub returns : goal.returns
returns c =
    λ rates t. clear_unknown c.args.r.now c.requires rates t _ c.if-kind-eq1.false c.if-kind-eq2.false c.if-kind-eq3.false c.if-kind-eq4.false
