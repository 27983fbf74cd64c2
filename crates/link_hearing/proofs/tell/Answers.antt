use Rattle.link_hearing.proofs.Laws.{told_it, another}
use Rattle.link_hearing.proofs.tell.Goals as goal

pub returns-then-id-word_at : goal.returns-then-id-word_at
returns-then-id-word_at c =
    told_it c.args.part.now c.requires.0 c.args.id c.args.bytes.now c.requires.1 _ c.word_at.ensures.0 c.if-id-word_at.true _ c.told.ensures

pub returns-else-id-word_at : goal.returns-else-id-word_at
returns-else-id-word_at c =
    another c.args.part.now c.requires.0 c.args.id c.args.bytes.now c.requires.1 _ c.word_at.ensures.0 c.if-id-word_at.false
