-- `record_writer::telegram_in` meets its contract. Assumes nothing.
use borrow.Author.Tests.{le-leb, lt-leb}
use Rattle.telegram_record.specs.Record.{telegram_in}
use Rattle.record_writer.proofs.telegram_in.Goals as goal

pub returns-then-word_at : goal.returns-then-word_at
unfolding telegram_in
returns-then-word_at c = rw (← c.word_at.ensures.0, le-leb _ _ c.if-word_at.true) c.opening.ensures

pub returns : goal.returns
unfolding telegram_in
returns c = rw (← c.word_at.ensures.0, lt-leb _ _ c.if-word_at.false) c.channel.ensures
