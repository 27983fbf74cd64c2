-- `landing::land` meets its contract. Assumes nothing.
use Rattle.landing.proofs.Landing.{link_lent, lands}
use Rattle.landing.proofs.land.Goals as goal

pub sent-requires : goal.sent-requires
sent-requires c = link_lent c.requires c.zero.ensures

pub returns : goal.returns
returns c =
    lands c.requires c.zero.ensures
    c.sent.ensures
