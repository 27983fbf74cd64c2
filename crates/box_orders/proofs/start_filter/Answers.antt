-- `box_orders::start_filter` meets its contract: it is a start whose third record is empty. Assumes nothing.
use mathlib.Core.Path.{◌∙◌}
use Rattle.box_orders.proofs.Laws.{nothing_behind, no_third_record}
use Rattle.box_orders.proofs.start_filter.Goals as goal

pub returns : goal.returns
returns c rates =
    let a = c.args in
    c.start_flow_filter.ensures rates ∙ no_third_record rates _ _ _ _ _ _ (nothing_behind a.mask.now)
