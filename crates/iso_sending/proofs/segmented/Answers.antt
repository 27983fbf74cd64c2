-- `iso_sending::segmented` meets its contract: the frame flies, the message goes. Assumes nothing.
use native.Mathlib.Omega.{arith}
use Rattle.iso_sending.proofs.Starting.{held_long, held_few, some_held, dropped, startable, none_segmented, opened_then, oldest_then, segmented_starts}
use Rattle.iso_sending.proofs.segmented.Goals as goal

pub start-requires : goal.start-requires
start-requires c =
    (c.requires.0, omega (arith, c.requires.2), c.requires.3, startable c.args.r.now c.requires.0 c.args.wide c.args.id c.args.payload.now c.requires.1 c.requires.2 c.requires.4)

pub drop_oldest-requires : goal.drop_oldest-requires
drop_oldest-requires c =
    let did = c.start in
    let u = did.new.r in
    let open-then = opened_then c.args.r.now c.requires.0 c.args.wide c.args.id c.args.payload.now c.requires.1 c.requires.2 c.requires.4 did.result u did.ensures in
    let here = oldest_then c.args.r.now c.requires.0 c.args.wide c.args.id c.args.payload.now c.requires.1 c.requires.2 c.requires.4 did.result u did.ensures c.if-start.true in
    (held_long u open-then, some_held u open-then c.args.wide c.args.id c.args.payload.now here, held_few u open-then)

pub returns-then-start : goal.returns-then-start
returns-then-start c =
    let did = c.start in
    let u = did.new.r in
    let gone = c.drop_oldest in
    let open-then = opened_then c.args.r.now c.requires.0 c.args.wide c.args.id c.args.payload.now c.requires.1 c.requires.2 c.requires.4 did.result u did.ensures in
    segmented_starts c.args.r.now c.requires.0 c.args.wide c.args.id c.args.payload.now c.requires.1 c.requires.2 c.requires.4 did.result u did.ensures c.if-start.true _ (dropped u open-then gone.new.s gone.ensures)

pub returns : goal.returns
returns c =
    let did = c.start in
    none_segmented c.args.r.now c.requires.0 c.args.wide c.args.id c.args.payload.now c.requires.1 c.requires.2 c.requires.4 did.result did.new.r did.ensures c.if-start.false
