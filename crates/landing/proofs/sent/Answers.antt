-- `landing::sent` meets its contract. Assumes nothing.
use Rattle.landing.proofs.Landing.{sent_nothing, sent_quietly, landed_open, outgoing_lent, sent_back}
use Rattle.landing.proofs.sent.Goals as goal

pub returns-then-r-eq0 : goal.returns-then-r-eq0
returns-then-r-eq0 c = λ rates. sent_nothing c.requires rates c.args.clock c.if-r-eq0.true

pub returns-then-r-eq0-2 : goal.returns-then-r-eq0-2
returns-then-r-eq0-2 c =
    λ rates. sent_quietly c.requires c.land.ensures c.if-r-eq0.false rates c.args.clock c.if-r-eq0-2.true

pub echo-requires : goal.echo-requires
echo-requires c =
    let gone = c.land-2.ensures in
    (landed_open c.requires gone c.if-r-eq0.false, outgoing_lent c.requires gone c.if-r-eq0.false c.copy.ensures)

pub returns : goal.returns
returns c =
    λ rates. sent_back c.requires c.land-2.ensures c.if-r-eq0.false c.copy.ensures rates c.args.clock c.if-r-eq0-2.false c.echo.ensures
