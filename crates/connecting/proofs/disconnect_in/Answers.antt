use Rattle.connecting.proofs.Laws.{disconnected}
use Rattle.connecting.proofs.disconnect_in.Goals as goal

pub returns : goal.returns
returns c =
    λ rates t. disconnected c.args.r.now c.requires rates t _ c.zero.ensures
