-- `iso_periodics::stop_in` meets its contract. Assumes nothing.
use Rattle.iso_periodics.proofs.Laws.{no_stop}
use Rattle.iso_periodics.proofs.stop_in.Goals as goal

pub returns : goal.returns
returns c r f rates t number = no_stop r f rates t number
