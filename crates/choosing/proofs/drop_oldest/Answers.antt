-- `choosing::drop_oldest` meets its contract. Assumes nothing.
use Rattle.choosing.proofs.Next.{without_oldest}
use Rattle.choosing.proofs.drop_oldest.Goals as goal

pub returns : goal.returns
returns c = without_oldest c.args.store.now c.requires.0 c.requires.1 c.move_down.ensures
