-- `link_giving::leave` meets its contract: a disconnect is in flight, where it waited and T3 is over. Assumes nothing.
use mathlib.Core.Path.{refl}
use native.Mathlib.Omega.{arith}
use Rattle.telegram.specs.Telegram.{fits}
use Rattle.telegram_types.specs.Face.{channel_said}
use Rattle.link_giving.proofs.Laws.{no_leave, leaves_later, leaves_now}
use Rattle.link_giving.proofs.leave.Goals as goal

pub returns-then-part-ne-DUE : goal.returns-then-part-ne-DUE
returns-then-part-ne-DUE c = no_leave c.args.part.now c.requires.0 c.requires.1 c.if-part-ne-DUE.true _ c.nothing.ensures

pub returns-then-word_at-gt0 : goal.returns-then-word_at-gt0
returns-then-word_at-gt0 c = leaves_later c.args.part.now c.requires.0 c.requires.1 c.if-part-ne-DUE.false (omega (arith, c.if-word_at-gt0.true, c.word_at.ensures.0)) _ c.nothing-then-word_at-gt0.ensures

pub on_channel-r-requires : goal.on_channel-r-requires
unfolding fits channel_said
on_channel-r-requires c = refl

pub returns : goal.returns
unfolding channel_said
returns c =
    leaves_now c.args.part.now c.requires.0 c.requires.1 c.if-part-ne-DUE.false (omega (arith, c.if-word_at-gt0.false, c.word_at.ensures.0)) _ c.word_at-id.result c.word_at-id.ensures.0 c.on_channel-r.ensures
