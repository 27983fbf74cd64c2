-- `link_landing::landed` meets its contract: nothing of it was in flight, or T3 runs, with data, a test or another telegram sent. Assumes nothing.
use mathlib.Core.Path.{refl}
use Rattle.link_landing.proofs.Laws.{nothing_flew, data_flew, test_flew, other_flew}
use Rattle.link_landing.proofs.landed.Goals as goal

pub returns-then-which-eq-SPACED : goal.returns-then-which-eq-SPACED
returns-then-which-eq-SPACED c = nothing_flew c.args.part.now c.requires.0 c.requires.1 c.if-which-eq-SPACED.true

pub data_sent-requires : goal.data_sent-requires
data_sent-requires c =
    let q = data_flew c.args.part.now c.requires.0 c.requires.1 c.micros-us.result c.micros-us.ensures.0 _ c.put_which.ensures c.if-which-eq-DATA.true c.wide-size.result _ c.wide-size.ensures.0 refl in
    (q.long, q.fine)

pub returns-then-which-eq-DATA : goal.returns-then-which-eq-DATA
returns-then-which-eq-DATA c =
    (data_flew c.args.part.now c.requires.0 c.requires.1 c.micros-us.result c.micros-us.ensures.0 _ c.put_which.ensures c.if-which-eq-DATA.true c.wide-size.result _ c.wide-size.ensures.0 refl).done _ c.data_sent.ensures

pub test_sent-requires : goal.test_sent-requires
test_sent-requires c =
    let q = test_flew c.args.part.now c.requires.0 c.requires.1 c.micros-us.result c.micros-us.ensures.0 _ c.put_which.ensures c.if-which-eq-TEST.true in
    (q.long, q.fine)

pub returns-then-which-eq-TEST : goal.returns-then-which-eq-TEST
returns-then-which-eq-TEST c =
    (test_flew c.args.part.now c.requires.0 c.requires.1 c.micros-us.result c.micros-us.ensures.0 _ c.put_which.ensures c.if-which-eq-TEST.true).done _ c.test_sent.ensures

pub returns-else-which-eq-TEST : goal.returns-else-which-eq-TEST
returns-else-which-eq-TEST c =
    other_flew c.args.part.now c.requires.0 c.requires.1 c.micros-us.result c.micros-us.ensures.0 _ c.put_which.ensures c.if-which-eq-SPACED.false c.if-which-eq-DATA.false c.if-which-eq-TEST.false
