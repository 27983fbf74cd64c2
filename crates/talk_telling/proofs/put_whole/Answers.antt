use lib.ListN.{length}
use Rattle.talk_head.specs.Headed.{payload_at}
use Rattle.talk_telling.proofs.Laws.{whole_put, whole_fits}
use Rattle.talk_telling.proofs.put_whole.Goals as goal

pub returns : goal.returns
returns c =
    let held = c.payload_size-held in (
      whole_put c.args.t.now c.args.bytes.now _ _ _ held.result c.args.n c.requires.0 held.ensures.0 c.requires.1 c.copy.ensures c.copy-2.ensures,
      whole_fits held.result c.args.n (length (payload_at c.args.t.now)) held.ensures.0 c.requires.2,
    )
