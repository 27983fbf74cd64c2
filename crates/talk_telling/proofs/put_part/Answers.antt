use Rattle.talk_telling.proofs.Laws.{part_put}
use Rattle.talk_telling.proofs.put_part.Goals as goal

pub returns : goal.returns
returns c = part_put c.args.bytes.now _ _ c.args.n c.requires.0 c.copy.ensures
