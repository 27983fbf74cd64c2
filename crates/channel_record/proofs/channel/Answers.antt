-- `channel_record::channel` meets its contract. Assumes nothing.
use mathlib.Core.Path.{ap}
use borrow.Author.Tests.{eq-eqb, ne_eqb}
use Rattle.telegram_record.specs.Record.{kept, channel_in}
use Rattle.channel_record.proofs.channel.Goals as goal

pub returns-then-kind : goal.returns-then-kind
unfolding channel_in
returns-then-kind c = rw (← c.word_at-kind.ensures.0, eq-eqb _ _ c.if-kind.true) c.data.ensures

pub returns-then-kind-2 : goal.returns-then-kind-2
unfolding channel_in
returns-then-kind-2 c = rw (← c.word_at-kind.ensures.0, ne_eqb _ _ c.if-kind.false, eq-eqb _ _ c.if-kind-2.true) c.acknowledge.ensures

pub returns-then-kind-3 : goal.returns-then-kind-3
unfolding channel_in
returns-then-kind-3 c = rw (← c.word_at-kind.ensures.0, ne_eqb _ _ c.if-kind.false, ne_eqb _ _ c.if-kind-2.false, c.if-kind-3.true) c.connection.ensures

pub returns : goal.returns
unfolding channel_in
returns c = rw (← c.word_at-kind.ensures.0, ne_eqb _ _ c.if-kind.false, ne_eqb _ _ c.if-kind-2.false, c.if-kind-3.false) (ap kept (c.alone.ensures _))
