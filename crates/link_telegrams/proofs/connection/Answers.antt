-- `link_telegrams::connection` meets its contract: the values are those of what was asked for. Assumes nothing.
use mathlib.Core.Path.{◌∙◌, ap}
use mathlib.Core.List.{[]}
use Rattle.telegram.specs.Telegram.{Telegram, fits, on_wire}
use Rattle.link_telegrams.specs.Given.{given}
use Rattle.link_telegrams.proofs.Laws.{ours_is, ours_fits}
use Rattle.link_telegrams.proofs.connection.Goals as goal

pub on_channel-requires : goal.on_channel-requires
on_channel-requires c =
    ap fits (c.connection-t.ensures [] ∙ ours_is c.args.s.now c.requires c.args.ack) ∙ ours_fits c.args.s.now c.requires c.args.ack

pub returns : goal.returns
returns c =
    c.on_channel.ensures
    ∙ ap (λ (x : Telegram). given c.args.id (on_wire x)) (c.connection-t.ensures [] ∙ ours_is c.args.s.now c.requires c.args.ack)
