-- `iso_landing::done` meets its contract: no message, or one that tells. Assumes nothing.
use mathlib.Core.Path.{refl}
use Rattle.iso.specs.Limits.{most_payload}
use Rattle.iso_landing.proofs.Telling.{none_done, tx_small, long, tellable, message_done, lent_is, lent_short}
use Rattle.iso_landing.proofs.done.Goals as goal

pub tell-requires : goal.tell-requires
tell-requires c =
    let args = c.args in
    let m = args.m in
    let on = c.if-m.true in
    let r = args.r.now in (
      long r c.requires.0 args.clock m args.buffer.now on c.requires.3 _ refl _ (lent_is m.size args.buffer.now),
      lent_short m.size most_payload args.buffer.now c.requires.1 c.requires.2,
      tx_small r c.requires.0 args.clock m args.buffer.now on c.requires.3,
      tellable r c.requires.0 args.clock m args.buffer.now on c.requires.3 _ refl _ (lent_is m.size args.buffer.now),
    )

pub returns-then-m : goal.returns-then-m
returns-then-m c =
    let args = c.args in
    message_done args.r.now c.requires.0 args.clock args.m args.buffer.now c.if-m.true c.requires.3 _ refl _ (lent_is args.m.size args.buffer.now)
    c.tell.new.q c.tell.ensures

pub returns-else-m : goal.returns-else-m
returns-else-m c =
    none_done c.args.r.now c.requires.0 c.args.clock c.args.m c.args.buffer.now c.if-m.false
