use Rattle.link_store.proofs.Stores.{dropped}
use Rattle.link_store.proofs.drop_bytes.Goals as goal

pub returns : goal.returns
returns c =
    dropped c.args.s.now c.requires.0 c.requires.1 _ c.args.k _ _ c.count-held.ensures.0 c.requires.2 c.move_down.ensures c.put_word.ensures
