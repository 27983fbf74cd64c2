-- `link_telling::answered` meets its contract: one byte. Assumes nothing.
use Rattle.link_telling.proofs.Care.{answers}
use Rattle.link_telling.proofs.answered.Goals as goal

pub returns : goal.returns
returns c = answers c.args.s.now c.requires.0 c.requires.1
