use Rattle.talk_frames.proofs.Laws.{room_after, more_is}
use Rattle.talk_frames.proofs.more.Goals as goal

pub append_payload-requires : goal.append_payload-requires
append_payload-requires c =
    room_after c.args.h c.args.t.now c.args.bytes.now _ c.requires.0 c.requires.1 c.requires.2 c.put_head.ensures

pub returns : goal.returns
returns c =
    more_is c.args.h c.args.t.now c.args.bytes.now _ _ c.requires.0 c.put_head.ensures c.append_payload.ensures
