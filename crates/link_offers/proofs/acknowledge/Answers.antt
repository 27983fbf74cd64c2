-- `link_offers::acknowledge` meets its contract: an acknowledge is in flight. Assumes nothing.
use lib.Dec.{le→leb}
use Rattle.codec.proofs.Tests.{T_true}
use Rattle.telegram.specs.Telegram.{fits}
use Rattle.telegram_types.specs.Face.{channel_said}
use Rattle.link_offers.proofs.Laws.{expected_most, acknowledged}
use Rattle.link_offers.proofs.acknowledge.Goals as goal

pub on_channel-r-requires : goal.on_channel-r-requires
unfolding fits channel_said
on_channel-r-requires c =
    let f = c.requires.0.free in
    T_true _ (le→leb _ _ (expected_most c.args.part.now f.part f.state))

pub returns : goal.returns
unfolding channel_said
returns c =
    let m = c.args.part.now in
    let f = c.requires.0.free in
    acknowledged m f.part f.state f.line f.gap c.requires.0.answers c.requires.0.tests c.requires.1 _ _ c.word_at-id.ensures.0 c.on_channel-r.ensures
