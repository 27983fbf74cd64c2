-- `log_events::put_pair` meets its contract. Assumes nothing.
use Rattle.log_events.proofs.Putting.{first_fits, second_fits, both_put}
use Rattle.log_events.proofs.put_pair.Goals as goal

pub put_number-next-requires : goal.put_number-next-requires
put_number-next-requires c = first_fits c.args.out.now c.args.at c.args.a c.args.b c.requires

pub put_number-requires : goal.put_number-requires
put_number-requires c =
    second_fits _ _ _ _ c.requires _ _ c.put_number-next.ensures

pub returns : goal.returns
returns c =
    both_put _ _ _ _ c.requires _ _ c.put_number-next.ensures _ _ c.put_number.ensures
