-- `shift_cells::add` meets its contract. Assumes nothing.
use Rattle.shift_cells.proofs.Plus.{added}
use Rattle.shift_cells.proofs.add.Goals as goal

pub returns : goal.returns
returns c =
    added c.args.numbers.now c.args.line c.args.which c.args.by c.requires.0 c.requires.1 c.requires.2
