-- `saving::put_clean` meets its contract: six numbers, then the bytes and zeros. Assumes nothing.
use Rattle.saving.proofs.Laws.{clean_put}
use Rattle.saving.proofs.put_clean.Goals as goal

pub returns : goal.returns
returns c =
    let head = c.put_numbers in
    let tail = c.put_padded in
    clean_put c.args.out.now c.args.at c.args.wide c.args.bytes.now head.new.h tail.new.d _ c.width_flag-tx.ensures c.requires.0 c.requires.1 head.ensures tail.ensures
