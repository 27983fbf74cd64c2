-- `iso_clearing::clear_in` meets its contract: zeros over a part are the bytes of that part with nothing in it. Assumes nothing.
use mathlib.Core.List.{[]}
use Rattle.iso_clearing.proofs.Laws.{clear_messages, clear_queue, clear_periodics, clear_unknown, clear_lain, clear_talks}
use Rattle.iso_clearing.proofs.clear_in.Goals as goal

pub returns-then-kind-eq1 : goal.returns-then-kind-eq1
returns-then-kind-eq1 c =
    λ rates t. clear_messages c.args.r.now c.requires rates t _ c.if-kind-eq1.true _ c.zero.ensures

pub returns-then-kind-eq2 : goal.returns-then-kind-eq2
returns-then-kind-eq2 c =
    λ rates t. clear_queue c.args.r.now c.requires rates t _ c.if-kind-eq2.true _ c.zero-then-kind-eq2.ensures

pub returns-then-kind-eq3 : goal.returns-then-kind-eq3
returns-then-kind-eq3 c =
    λ rates t. clear_periodics c.args.r.now c.requires rates t _ c.if-kind-eq3.true

pub disown-requires : goal.disown-requires
disown-requires c =
    clear_lain c.args.r.now c.requires [] 0 0 _ c.zero-then-kind-eq4.ensures

pub returns-then-kind-eq4 : goal.returns-then-kind-eq4
returns-then-kind-eq4 c =
    λ rates t. clear_talks c.args.r.now c.requires rates t _ _ c.zero-then-kind-eq4.ensures c.if-kind-eq4.true _ c.disown.ensures

pub returns : goal.returns
returns c =
    λ rates t. clear_unknown c.args.r.now c.requires rates t _ c.if-kind-eq1.false c.if-kind-eq2.false c.if-kind-eq3.false c.if-kind-eq4.false
