-- `talk_head::set_payload` meets its contract: the count, the bytes, zeros. Assumes nothing.
use Rattle.talk_head.proofs.Bytes.{payload_set}
use Rattle.talk_head.proofs.set_payload.Goals as goal

pub returns : goal.returns
returns c =
    payload_set c.args.t.now c.put_word.new.s c.put_padded.new.d c.args.bytes.now c.requires.0
    c.put_word.ensures c.put_padded.ensures
