-- `settings::get_in` meets its contract: by the configuration lent. Assumes nothing.
use Rattle.settings.proofs.Laws.{lent, got}
use Rattle.settings.proofs.get_in.Goals as goal

pub get-requires : goal.get-requires
get-requires c = lent c.args.r.now c.requires

pub returns : goal.returns
returns c =
    λ rates t. got c.args.r.now c.requires rates t _ _ _ c.get.ensures
