-- `iso_flights::aloft` meets its contract: by the head of its transfer. Assumes nothing.
use Rattle.iso_flights.proofs.Flights.{aloft_head, free_rests, taken_flies}
use Rattle.iso_flights.proofs.aloft.Goals as goal

pub returns-then-t-eq0 : goal.returns-then-t-eq0
returns-then-t-eq0 c =
    λ flags v. free_rests c.args.t.now c.requires flags v c.if-t-eq0.true

pub returns : goal.returns
unfolding aloft_head
returns c =
    λ flags v. taken_flies c.args.t.now c.requires flags v c.if-t-eq0.false c.head_in-h.result c.head_in-h.ensures
