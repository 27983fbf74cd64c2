-- `link_telling::acknowledge` meets its contract: what is sent moves, or the end. Assumes nothing.
use mathlib.Core.Path.{sym, subst}
use Rattle.link_layout.specs.Turned.{LinkPart}
use Rattle.link_telling.proofs.Turns.{talk_lent, sn_small, acknowledged, unacknowledged, acknowledge_ends}
use Rattle.link_telling.proofs.acknowledge.Goals as goal

pub acknowledge-goes_on-requires : goal.acknowledge-goes_on-requires
acknowledge-goes_on-requires c =
    let m = c.args.part.now in
    let p = talk_lent m c.requires.0 c.requires.1 in (p.long, p.valid, sn_small m c.requires.0 c.requires.1)

pub returns-then-goes_on : goal.returns-then-goes_on
returns-then-goes_on c =
    let m = c.args.part.now in
    acknowledged m c.requires.0 c.requires.1 c.args.ready c.args.sn _ _ c.acknowledge-goes_on.ensures.0 c.acknowledge-goes_on.ensures.1 c.if-goes_on.true

pub end-requires : goal.end-requires
end-requires c =
    let m = c.args.part.now in
    subst LinkPart (sym (unacknowledged m c.requires.0 c.requires.1 c.args.ready c.args.sn _ _ c.acknowledge-goes_on.ensures.0 c.acknowledge-goes_on.ensures.1 c.if-goes_on.false)) c.requires.0

pub returns : goal.returns
returns c =
    let m = c.args.part.now in
    acknowledge_ends m c.requires.0 c.requires.1 c.args.ready c.args.sn _ _ c.acknowledge-goes_on.ensures.0 c.acknowledge-goes_on.ensures.1 c.if-goes_on.false _ c.end.ensures
