-- `talk_head::put_numbers` meets its contract: four words side by side. Assumes nothing.
use Rattle.talk_head.proofs.Bytes.{four_stored}
use Rattle.talk_head.proofs.put_numbers.Goals as goal

pub returns : goal.returns
returns c =
    let args = c.args in
    four_stored args.s.now args.n args.time args.left args.gap c.requires
    c.put_word.ensures
    c.put_word-2.ensures
    c.put_word-3.ensures c.put_word-4.ensures
