-- `iso_choosing::choose` meets its contract: one step after the other. Assumes nothing.
use Rattle.iso_choosing.proofs.Choosing.{by_answer, still_open, by_segment, by_message, calm}
use Rattle.iso_choosing.proofs.choose.Goals as goal

pub returns-then-answer : goal.returns-then-answer
returns-then-answer c = by_answer c.args.r.now c.requires.0 c.answer.result c.answer.new.r c.if-answer.true c.answer.ensures

pub transmits-requires : goal.transmits-requires
transmits-requires c = still_open c.args.r.now c.requires.0 c.answer.result c.answer.new.r c.if-answer.false c.answer.ensures

pub segment-requires : goal.segment-requires
segment-requires c = still_open c.args.r.now c.requires.0 c.answer.result c.answer.new.r c.if-answer.false c.answer.ensures

pub returns-then-transmits : goal.returns-then-transmits
returns-then-transmits c = by_segment c.args.r.now c.requires.0 c.answer.result c.answer.new.r c.if-answer.false c.answer.ensures c.transmits.result c.transmits.ensures c.if-transmits.true c.segment.result c.segment.new.r c.segment.ensures

pub start-requires : goal.start-requires
start-requires c = (still_open c.args.r.now c.requires.0 c.answer.result c.answer.new.r c.if-answer.false c.answer.ensures, calm c.args.r.now c.requires.0 c.answer.result c.answer.new.r c.if-answer.false c.answer.ensures c.transmits.result c.transmits.ensures c.if-transmits.false c.requires.1)

pub returns : goal.returns
returns c = by_message c.args.r.now c.requires.0 c.answer.result c.answer.new.r c.if-answer.false c.answer.ensures c.transmits.result c.transmits.ensures c.if-transmits.false c.start.result c.start.new.r c.start.ensures
