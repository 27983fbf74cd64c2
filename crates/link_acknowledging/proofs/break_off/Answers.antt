-- `link_acknowledging::break_off` meets its contract: by whether the message was cut. Assumes nothing.
use mathlib.Core.Path.{refl}
use Rattle.link_acknowledging.proofs.Talks.{lent, uncut, is_broken, next_sn}
use Rattle.link_acknowledging.proofs.break_off.Goals as goal

pub cut-requires : goal.cut-requires
cut-requires c =
    let m = c.args.s.now in
    let p = lent m c.requires.0 c.requires.1 in (p.long, p.valid)

pub returns-then-cut : goal.returns-then-cut
returns-then-cut c =
    let m = c.args.s.now in
    is_broken m c.requires.0 c.requires.1 c.cut.result c.cut.ensures.0 _ c.cut.ensures.1 c.if-cut.true _ (next_sn m c.requires.0 c.requires.1 _ _ _ c.wide.ensures.0 c.wide-2.ensures.0 refl)

pub returns-else-cut : goal.returns-else-cut
returns-else-cut c =
    let m = c.args.s.now in
    uncut m c.requires.0 c.requires.1 c.cut.result c.cut.ensures.0 _ c.cut.ensures.1 c.if-cut.false
