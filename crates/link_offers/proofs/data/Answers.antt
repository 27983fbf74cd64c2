-- `link_offers::data` meets its contract: nothing to send, T_Wait runs, or data is in flight. Assumes nothing.
use native.Mathlib.Omega.{arith}
use lib.ListN.{length-set}
use Rattle.link_offers.proofs.Laws.{none_to_send, waits_still, taken_few, out_lent, data_given}
use Rattle.link_offers.proofs.data.Goals as goal

pub returns-then-part-ne-SENDS : goal.returns-then-part-ne-SENDS
returns-then-part-ne-SENDS c =
    let m = c.args.part.now in
    let f = c.requires.0.free in
    none_to_send m f.part f.state f.line f.gap c.requires.0.answers c.requires.0.tests c.requires.1 c.if-part-ne-SENDS.true _ c.nothing.ensures

pub returns-then-word_at-gt0 : goal.returns-then-word_at-gt0
returns-then-word_at-gt0 c =
    let m = c.args.part.now in
    let f = c.requires.0.free in
    waits_still m f.part f.state f.line f.gap c.requires.0.answers c.requires.0.tests c.requires.1 c.if-part-ne-SENDS.false (omega (arith, c.if-word_at-gt0.true, c.word_at.ensures.0)) _ c.nothing-then-word_at-gt0.ensures

pub data-r-requires : goal.data-r-requires
data-r-requires c =
    let m = c.args.part.now in
    let f = c.requires.0.free in
    out_lent m f.part f.state f.line f.gap c.requires.0.answers c.requires.0.tests c.requires.1 c.if-part-ne-SENDS.false c.wide-size.result c.wide-size.ensures.0

pub overflow_add-part : goal.overflow_add-part
overflow_add-part c =
    let m = c.args.part.now in
    let f = c.requires.0.free in
    omega (arith, taken_few m f.part f.state f.line f.gap c.requires.0.answers c.requires.0.tests c.requires.1 c.if-part-ne-SENDS.false)

pub bounds-part-3 : goal.bounds-part-3
bounds-part-3 c = simp length-set (omega (arith, c.requires.0.free.part.long))

pub returns : goal.returns
returns c =
    let m = c.args.part.now in
    let f = c.requires.0.free in
    data_given m f.part f.state f.line f.gap c.requires.0.answers c.requires.0.tests c.requires.1 c.if-part-ne-SENDS.false c.wide-size.result c.wide-size.ensures.0 (omega (arith, c.if-word_at-gt0.false, c.word_at.ensures.0)) _ c.word_at-id.result c.word_at-id.ensures.0 c.data-r.ensures
