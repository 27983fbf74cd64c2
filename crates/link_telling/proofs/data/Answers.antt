-- `link_telling::data` meets its contract: what is received moves, or the end. Assumes nothing.
use mathlib.Core.Path.{sym, subst}
use Rattle.link_layout.specs.Turned.{LinkPart}
use Rattle.link_telling.proofs.Turns.{hear_lent, heard, unheard, data_ends}
use Rattle.link_telling.proofs.data.Goals as goal

pub data-goes_on-requires : goal.data-goes_on-requires
data-goes_on-requires c =
    let m = c.args.part.now in
    let p = hear_lent m c.requires.0 c.requires.1 in (p.long, p.valid, c.requires.2)

pub returns-then-goes_on : goal.returns-then-goes_on
returns-then-goes_on c =
    let m = c.args.part.now in
    heard m c.requires.0 c.requires.1 c.args.asks c.args.last c.args.sn c.args.bytes.now _ _ c.data-goes_on.ensures.0 c.data-goes_on.ensures.1 c.if-goes_on.true

pub end-requires : goal.end-requires
end-requires c =
    let m = c.args.part.now in
    subst LinkPart (sym (unheard m c.requires.0 c.requires.1 c.args.asks c.args.last c.args.sn c.args.bytes.now _ _ c.data-goes_on.ensures.0 c.data-goes_on.ensures.1 c.if-goes_on.false)) c.requires.0

pub returns : goal.returns
returns c =
    let m = c.args.part.now in
    data_ends m c.requires.0 c.requires.1 c.args.asks c.args.last c.args.sn c.args.bytes.now _ _ c.data-goes_on.ensures.0 c.data-goes_on.ensures.1 c.if-goes_on.false _ c.end.ensures
