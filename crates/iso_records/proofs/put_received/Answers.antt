-- `iso_records::put_received` meets its contract: the record of what is received. Assumes nothing.
use Rattle.machine.specs.Message.{received}
use Rattle.iso_records.specs.Told.{told}
use Rattle.iso_records.proofs.put_received.Goals as goal

pub returns : goal.returns
unfolding told received
returns c = c.put.ensures
