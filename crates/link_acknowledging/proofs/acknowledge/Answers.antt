-- `link_acknowledging::acknowledge` meets its contract: by where it points in the block. Assumes nothing.
use mathlib.Core.Path.{refl}
use native.Mathlib.Omega.{arith}
use Rattle.link_acknowledging.proofs.Talks.{sn_is, ignored, accepting, beyond, given_up, repeating}
use Rattle.link_acknowledging.proofs.acknowledge.Goals as goal

pub returns-then-s-ne-ASKS : goal.returns-then-s-ne-ASKS
returns-then-s-ne-ASKS c =
    let m = c.args.s.now in
    ignored m c.requires.0 c.requires.1 c.args.ready c.args.sn c.if-s-ne-ASKS.true

pub overflow_sub-at : goal.overflow_sub-at
overflow_sub-at c =
    omega (arith, sn_is c.args.s.now c.requires.0 c.requires.1, c.requires.2, c.wide.ensures.0, c.wide-2.ensures.0)

pub accept-requires : goal.accept-requires
accept-requires c =
    (c.requires.0, c.requires.1, c.if-s-ne-ASKS.false)

pub returns-then-at-taken : goal.returns-then-at-taken
returns-then-at-taken c =
    let m = c.args.s.now in
    accepting m c.requires.0 c.requires.1 c.args.ready c.args.sn c.if-s-ne-ASKS.false _ _ _ c.wide.ensures.0 c.wide-2.ensures.0 refl c.if-at-taken.true _ c.accept.ensures

pub returns-then-at-taken-2 : goal.returns-then-at-taken-2
returns-then-at-taken-2 c =
    let m = c.args.s.now in
    beyond m c.requires.0 c.requires.1 c.args.ready c.args.sn c.if-s-ne-ASKS.false _ _ _ c.wide.ensures.0 c.wide-2.ensures.0 refl c.if-at-taken-2.true

pub returns-then-again-ge-MOST_AGAIN : goal.returns-then-again-ge-MOST_AGAIN
returns-then-again-ge-MOST_AGAIN c =
    let m = c.args.s.now in
    given_up m c.requires.0 c.requires.1 c.args.ready c.args.sn c.if-s-ne-ASKS.false _ _ _ c.wide.ensures.0 c.wide-2.ensures.0 refl c.if-at-taken.false c.if-at-taken-2.false c.if-again-ge-MOST_AGAIN.true

pub returns : goal.returns
returns c =
    let m = c.args.s.now in
    repeating m c.requires.0 c.requires.1 c.args.ready c.args.sn c.if-s-ne-ASKS.false _ _ _ c.wide.ensures.0 c.wide-2.ensures.0 refl c.if-at-taken.false c.if-at-taken-2.false c.if-again-ge-MOST_AGAIN.false _ c.repeat.ensures
