-- `link_telegrams::on_channel` meets its contract: the fields fit, so it is written. Assumes nothing.
use Rattle.telegram_types.specs.Face.{channel_said}
use Rattle.link_layout.proofs.Moves.{short_wire}
use Rattle.link_telegrams.proofs.Laws.{value_or, written}
use Rattle.link_telegrams.proofs.on_channel.Goals as goal

pub returns : goal.returns
returns c =
    rw (c.unwrap_or.ensures, value_or c.channel-w.result)
    (written c.args.id c.channel-w.result _ _ _ c.requires (short_wire (channel_said c.args.t c.args.carried.now) c.requires) c.channel-w.ensures)
