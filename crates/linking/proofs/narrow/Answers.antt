-- `linking::narrow` meets its contract. Assumes nothing.
use Rattle.linking.proofs.Laws.{narrow_is}
use Rattle.linking.proofs.narrow.Goals as goal

pub returns : goal.returns
returns c =
    narrow_is c.requires c.word_at.ensures.0 c.takes_width.ensures
