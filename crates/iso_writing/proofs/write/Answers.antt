-- `iso_writing::write` meets its contract. Assumes nothing.
use mathlib.Core.Path.{refl}
use Rattle.iso_writing.specs.Written.{talks_by}
use Rattle.iso_writing.proofs.Writing.{write_short, iso_laws, part_is, messages_lent, write_done}
use Rattle.iso_writing.proofs.write.Goals as goal

pub returns-then-buffer-n : goal.returns-then-buffer-n
returns-then-buffer-n c = λ rates t. write_short c.requires rates t _ _ c.if-buffer-n.true

pub queue_all-requires : goal.queue_all-requires
queue_all-requires c =
    let ts = talks_by c.flow_in.result c.flow_in-2.result in
    record { laws = iso_laws _ ts; sized = refl; part = part_is ts (messages_lent c.requires c.word_at.ensures.0); whole = c.if-buffer-n.false }

pub returns : goal.returns
returns c =
    λ rates t.
    let one = c.flow_in.ensures in
    let two = c.flow_in-2.ensures in
    write_done c.requires c.word_at.ensures.0 rates t _ _ _ _
    (record { taken = one.0; width = one.1; flow = one.2 })
    (record { taken = two.0; width = two.1; flow = two.2 })
    c.if-buffer-n.false c.queue_all.ensures
