-- `early::word` meets its contract. Assumes nothing.
use Rattle.early.proofs.Rows.{data_value}
use Rattle.early.proofs.word.Goals as goal

pub returns : goal.returns
returns c =
    data_value c.args.part.now c.args.at _ _ c.requires c.word_at-low.ensures.0 c.word_at-high.ensures.0
