-- `iso_taking::take` meets its contract: too short, once more, chosen, none. Assumes nothing.
use mathlib.Core.Path.{◌∙◌}
use Rattle.iso_retaking.proofs.Laws.{take_short}
use Rattle.iso_taking.proofs.Laws.{nothing_flies, none_taken, opened_then, flies_then, one_taken}
use Rattle.iso_taking.proofs.take.Goals as goal

pub returns-then-buffer-lt-RECORD : goal.returns-then-buffer-lt-RECORD
returns-then-buffer-lt-RECORD c rates t = take_short c.args.r.now c.requires rates t c.args.buffer.now c.if-buffer-lt-RECORD.true

pub again-requires : goal.again-requires
again-requires c = (c.requires, c.if-r-ne0.true, c.if-buffer-lt-RECORD.false)

pub choose-requires : goal.choose-requires
choose-requires c = (c.requires, nothing_flies c.args.r.now c.requires c.if-r-ne0.false)

pub again-requires-then-choose : goal.again-requires-then-choose
again-requires-then-choose c = (opened_then c.args.r.now c.requires c.if-r-ne0.false c.choose.result c.choose.new.r c.choose.ensures, flies_then c.args.r.now c.requires c.if-r-ne0.false c.choose.result c.choose.new.r c.choose.ensures c.if-choose.true, c.if-buffer-lt-RECORD.false)

pub returns-then-choose : goal.returns-then-choose
returns-then-choose c rates t =
    c.again-then-choose.ensures rates t ∙ one_taken c.args.r.now c.requires c.if-r-ne0.false c.choose.result c.choose.new.r c.choose.ensures c.if-choose.true rates t c.args.buffer.now c.if-buffer-lt-RECORD.false

pub returns : goal.returns
returns c rates t = none_taken c.args.r.now c.requires c.if-r-ne0.false c.choose.result c.choose.new.r c.choose.ensures c.if-choose.false rates t c.args.buffer.now c.if-buffer-lt-RECORD.false

pub returns-then-r-ne0 : goal.returns-then-r-ne0
returns-then-r-ne0 c = c.again.ensures
