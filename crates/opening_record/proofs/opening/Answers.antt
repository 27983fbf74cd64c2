-- `opening_record::opening` meets its contract. Assumes nothing.
use mathlib.Core.Path.{◌∙◌}
use borrow.Author.Tests.{eq-eqb, ne_eqb}
use Rattle.telegram_record.specs.Record.{negative_in, opening_in}
use Rattle.opening_record.proofs.Openings.{only_negative}
use Rattle.opening_record.proofs.opening.Goals as goal

pub returns-then-kind : goal.returns-then-kind
unfolding opening_in
returns-then-kind c = rw (← c.word_at-kind.ensures.0, eq-eqb _ _ c.if-kind.true) c.set_up.ensures

pub returns-then-kind-2 : goal.returns-then-kind-2
unfolding opening_in
returns-then-kind-2 c = rw (← c.word_at-kind.ensures.0, ne_eqb _ _ c.if-kind.false, eq-eqb _ _ c.if-kind-2.true) c.positive.ensures

pub returns : goal.returns
unfolding opening_in negative_in
returns c = rw (← c.word_at-kind.ensures.0, ne_eqb _ _ c.if-kind.false, ne_eqb _ _ c.if-kind-2.false) (c.negative.ensures ∙ rw c.word_at-kind.ensures.0 (only_negative _ _ _ _))
