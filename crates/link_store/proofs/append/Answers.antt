use Rattle.link_store.proofs.Stores.{appended}
use Rattle.link_store.proofs.append.Goals as goal

pub returns : goal.returns
returns c =
    appended c.args.s.now c.requires.0 c.requires.1 _ c.args.bytes.now _ _ c.count-held.ensures.0 c.requires.2 c.copy.ensures c.put_word.ensures
