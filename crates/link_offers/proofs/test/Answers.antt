-- `link_offers::test` meets its contract: a test is in flight. Assumes nothing.
use mathlib.Core.Path.{refl}
use Rattle.telegram.specs.Telegram.{fits}
use Rattle.telegram_types.specs.Face.{channel_said}
use Rattle.link_offers.proofs.Laws.{tested}
use Rattle.link_offers.proofs.test.Goals as goal

pub on_channel-r-requires : goal.on_channel-r-requires
unfolding fits channel_said
on_channel-r-requires c = refl

pub returns : goal.returns
unfolding channel_said
returns c =
    let m = c.args.part.now in
    let f = c.requires.0 in
    tested m f.part f.state f.line f.gap c.requires.1 c.requires.2 _ _ c.word_at-id.ensures.0 c.on_channel-r.ensures
