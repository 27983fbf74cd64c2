-- `link_telegrams::set_up` meets its contract: the fields fit, so it is written. Assumes nothing.
use Rattle.telegram_types.specs.Face.{opening_said}
use Rattle.link_telegrams.proofs.Laws.{value_or, written, set_up_short}
use Rattle.link_telegrams.proofs.set_up.Goals as goal

pub returns : goal.returns
unfolding opening_said
returns c =
    rw (c.unwrap_or.ensures, value_or c.opening-w.result)
    (written c.args.id c.opening-w.result _ _ _ c.requires (set_up_short c.args.destination c.args.rx_id c.args.application) c.opening-w.ensures)
