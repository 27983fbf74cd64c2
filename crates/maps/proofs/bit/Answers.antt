-- `maps::bit` meets its contract. Assumes nothing.
use Rattle.maps.proofs.Parts.{bit_is}
use Rattle.maps.proofs.bit.Goals as goal

pub returns : goal.returns
returns c = bit_is c.args.map.now c.args.id
