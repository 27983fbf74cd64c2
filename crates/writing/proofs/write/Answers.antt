-- `writing::write` meets its contract. Assumes nothing.
use mathlib.Core.Path.{refl}
use Rattle.writing.proofs.Writing.{write_short, raw_laws, part_is, speaking, written_lent, write_done}
use Rattle.writing.proofs.write.Goals as goal

pub returns-then-buffer-n : goal.returns-then-buffer-n
returns-then-buffer-n c = λ rates t. write_short c.requires.is rates t _ _ c.if-buffer-n.true

pub queue_all-requires : goal.queue_all-requires
queue_all-requires c =
    let speaker = c.requires in
    let flags = c.word_at.ensures.0 in
    record { laws = raw_laws _ (speaking speaker.is flags speaker.speaks); sized = refl; part = part_is (written_lent speaker.is flags); whole = c.if-buffer-n.false }

pub returns : goal.returns
returns c =
    λ rates t.
    write_done c.requires.is c.word_at.ensures.0 rates t _ _ c.if-buffer-n.false c.queue_all.ensures
