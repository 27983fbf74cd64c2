-- `iso_connecting::disconnect_in` meets its contract. Assumes nothing.
use Rattle.iso_connecting.proofs.Laws.{disconnected}
use Rattle.iso_connecting.proofs.disconnect_in.Goals as goal

pub returns : goal.returns
returns c =
    λ rates t. disconnected c.args.r.now c.requires rates t _ c.zero.ensures
