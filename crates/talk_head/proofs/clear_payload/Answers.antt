-- `talk_head::clear_payload` meets its contract: zeros from the count on. Assumes nothing.
use Rattle.talk_head.proofs.Bytes.{payload_cleared}
use Rattle.talk_head.proofs.clear_payload.Goals as goal

pub returns : goal.returns
returns c =
    payload_cleared c.args.t.now c.zero.new.d c.requires c.zero.ensures
