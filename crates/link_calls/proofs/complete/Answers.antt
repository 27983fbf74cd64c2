use mathlib.Core.Path.{◌≡◌, ap, sym, ◌∙◌}
use lib.ListN.{length, get_or}
use native.Mathlib.Omega.{arith}
use Rattle.link_calls.proofs.Laws.{none_there, not_complete, standing_there, store_valid, store_got, is_complete}
use Rattle.link_calls.proofs.complete.Goals as goal

pub returns-then-part-ne-STANDING : goal.returns-then-part-ne-STANDING
returns-then-part-ne-STANDING c = (none_there c.args.part.now c.requires c.if-part-ne-STANDING.true, omega arith)

pub returns-then-part-eq0 : goal.returns-then-part-eq0
returns-then-part-eq0 c = (not_complete c.args.part.now c.requires (omega (arith, c.if-part-ne-STANDING.false)) c.if-part-eq0.true, omega arith)

pub count-requires : goal.count-requires
count-requires c =
    let i = standing_there c.args.part.now c.requires (omega (arith, c.if-part-ne-STANDING.false)) in
    store_valid c.args.part.now c.requires i.0 i.1.0 i.1.1.0 i.1.1.1

pub returns : goal.returns
returns c =
    let m = c.args.part.now in
    let here : get_or m 0 0 ≡ 3 = omega (arith, c.if-part-ne-STANDING.false) in
    let i = standing_there m c.requires here in
    (c.count.ensures.0 ∙ ap length (store_got m c.requires i.0 i.1.0 i.1.1.0 i.1.1.1 ∙ sym (is_complete m c.requires here c.if-part-eq0.false)), c.count.ensures.1)
