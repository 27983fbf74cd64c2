-- `link_ending::put_exit` meets its contract: the number, then the way. Assumes nothing.
use Rattle.link_ending.proofs.Ends.{exit_stored}
use Rattle.link_ending.proofs.put_exit.Goals as goal

pub returns : goal.returns
returns c =
    exit_stored c.args.s.now c.requires.0 c.args.which c.args.n c.requires.1 _ c.put_word.ensures
