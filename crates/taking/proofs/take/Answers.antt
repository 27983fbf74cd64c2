-- `taking::take` meets its contract. Assumes nothing.
use Rattle.taking.proofs.Taking.{take_short, take_again}
use Rattle.taking.proofs.take.Goals as goal

pub returns-then-buffer-lt-RECORD : goal.returns-then-buffer-lt-RECORD
returns-then-buffer-lt-RECORD c = λ rates t. take_short c.requires rates t c.args.buffer.now c.if-buffer-lt-RECORD.true

pub returns : goal.returns
returns c =
    λ rates t.
    take_again c.requires rates t c.args.buffer.now c.if-buffer-lt-RECORD.false c.if-r-eq0.false c.copy_record.ensures
