-- `link_giving::connect` meets its contract: a connection set-up is in flight, where it waited. Assumes nothing.
use Rattle.link_giving.proofs.Laws.{connection_lent, no_connection, connection_given}
use Rattle.link_giving.proofs.connect.Goals as goal

pub returns-then-part-ne-WAITS : goal.returns-then-part-ne-WAITS
returns-then-part-ne-WAITS c = no_connection c.args.part.now c.requires.0 c.requires.1 c.if-part-ne-WAITS.true _ c.nothing.ensures

pub connection-r-requires : goal.connection-r-requires
connection-r-requires c = connection_lent c.args.part.now c.requires.0 c.requires.1

pub returns : goal.returns
returns c = connection_given c.args.part.now c.requires.0 c.requires.1 c.if-part-ne-WAITS.false _ c.word_at-id.result c.word_at-id.ensures.0 c.connection-r.ensures
