-- `settings::set_in` meets its contract: by the configuration lent. Assumes nothing.
use Rattle.settings.proofs.Laws.{lent, stored}
use Rattle.settings.proofs.set_in.Goals as goal

pub set-requires : goal.set-requires
set-requires c = lent c.args.r.now c.requires

pub returns : goal.returns
returns c =
    λ t. stored c.args.r.now c.requires c.args.rates.now t _ _ _ _ c.set.ensures
