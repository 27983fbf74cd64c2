-- `link_offers::on_link` meets its contract, by Table 6. Assumes nothing.
use native.Mathlib.Omega.{arith}
use Rattle.link_offers.specs.Free.{Free}
use Rattle.link_offers.proofs.Laws.{in_flight, t3_runs}
use Rattle.link_offers.proofs.on_link.Goals as goal

pub returns-then-part-ne0 : goal.returns-then-part-ne0
returns-then-part-ne0 c = in_flight c.args.part.now c.requires.0 c.requires.1 c.if-part-ne0.true _ c.nothing.ensures

pub returns-then-word_at-gt0 : goal.returns-then-word_at-gt0
returns-then-word_at-gt0 c = t3_runs c.args.part.now c.requires.0 c.requires.1 c.if-part-ne0.false (omega (arith, c.if-word_at-gt0.true, c.word_at.ensures.0)) _ c.nothing-then-word_at-gt0.ensures

pub acknowledge-requires : goal.acknowledge-requires
acknowledge-requires c =
    let none_left = c.word_at.ensures.0 in
    let f : Free c.args.part.now = record { part = c.requires.0; state = c.requires.1; line = c.if-part-ne0.false; gap = omega (arith, c.if-word_at-gt0.false) } in
    (record { free = f; answers = c.if-part-eq1.false; tests = c.if-part-eq1-2.false }, c.if-part-ne0-2.true)

pub data-requires : goal.data-requires
data-requires c =
    let none_left = c.word_at.ensures.0 in
    let f : Free c.args.part.now = record { part = c.requires.0; state = c.requires.1; line = c.if-part-ne0.false; gap = omega (arith, c.if-word_at-gt0.false) } in
    (record { free = f; answers = c.if-part-eq1.false; tests = c.if-part-eq1-2.false }, c.if-part-ne0-2.false)
