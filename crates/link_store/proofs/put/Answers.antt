use Rattle.link_store.proofs.Stores.{laid}
use Rattle.link_store.proofs.put.Goals as goal

pub returns : goal.returns
returns c =
    laid c.args.bytes.now c.args.s.now _ _ _ c.requires.0 c.requires.1 c.put_word.ensures c.copy.ensures c.zero.ensures
