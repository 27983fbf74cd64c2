-- `store_filling::number_there` meets its contract. Assumes nothing.
use Rattle.store_filling.proofs.Entries.{number_or}
use Rattle.store_filling.proofs.number_there.Goals as goal

pub returns : goal.returns
returns c = number_or _ _ _ _ c.number_at.ensures c.unwrap_or.ensures
