-- `channel_record::alone` meets its contract. Assumes nothing.
use borrow.Author.Tests.{eq-eqb, ne_eqb}
use Rattle.telegram_types.specs.Face.{said, channel_said, taken_said}
use Rattle.telegram_record.specs.Record.{alone_in}
use Rattle.channel_record.proofs.alone.Goals as goal

pub returns-then-kind : goal.returns-then-kind
unfolding taken_said said channel_said alone_in
returns-then-kind c = λ bytes. rw (eq-eqb _ _ c.if-kind.true)

pub returns-then-kind-2 : goal.returns-then-kind-2
unfolding taken_said said channel_said alone_in
returns-then-kind-2 c = λ bytes. rw (ne_eqb _ _ c.if-kind.false, eq-eqb _ _ c.if-kind-2.true)

pub returns-then-kind-3 : goal.returns-then-kind-3
unfolding taken_said said channel_said alone_in
returns-then-kind-3 c = λ bytes. rw (ne_eqb _ _ c.if-kind.false, ne_eqb _ _ c.if-kind-2.false, eq-eqb _ _ c.if-kind-3.true)

pub returns : goal.returns
unfolding taken_said said channel_said alone_in
returns c = λ bytes. rw (ne_eqb _ _ c.if-kind.false, ne_eqb _ _ c.if-kind-2.false, ne_eqb _ _ c.if-kind-3.false)
