-- `records::put_numbers` meets its contract: six words side by side. Assumes nothing.
use Rattle.records.proofs.Laws.{six_stored}
use Rattle.records.proofs.put_numbers.Goals as goal

pub returns : goal.returns
returns c = let args = c.args in
    six_stored args.h.now args.protocol args.rx args.tx args.time args.size args.extra c.requires
    c.put_word.ensures
    c.put_word-2.ensures
    c.put_word-3.ensures
    c.put_word-4.ensures
    c.put_word-5.ensures
    c.put_word-6.ensures
