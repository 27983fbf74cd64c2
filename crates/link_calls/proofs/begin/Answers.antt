use mathlib.Core.Path.{ap, ◌∙◌}
use lib.ListN.{length}
use Rattle.link_calls.proofs.Laws.{idle_long, standing_there, idle_is, begins}
use Rattle.link_calls.proofs.begin.Goals as goal

pub start-requires : goal.start-requires
start-requires c =
    let m = c.args.part.now in
    let p = c.requires.0 in
    let i = standing_there m p c.requires.1 in
    let e = idle_is m p i.0 i.1.0 i.1.1.0 i.1.1.1 c.requires.2 in
    (ap length e ∙ idle_long, e, c.requires.3)

pub returns : goal.returns
returns c =
    let m = c.args.part.now in
    let p = c.requires.0 in
    let i = standing_there m p c.requires.1 in
    begins m p i.0 i.1.0 i.1.1.0 i.1.1.1 c.args.message.now _ c.start.ensures
