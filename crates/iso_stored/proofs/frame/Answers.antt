-- `iso_stored::frame` meets its contract. Assumes nothing.
use Rattle.iso_stored.proofs.Records.{no_record, a_record}
use Rattle.iso_layout.specs.Record.{frame_cell, iso_outgoing}
use Rattle.machine.specs.Limits.{most_data}
use Rattle.codec.proofs.Tests.{true_T}
use mathlib.Core.Path.{sym, ◌∙◌}
use Rattle.iso_stored.proofs.frame.Goals as goal

pub returns-then-not-plain_record : goal.returns-then-not-plain_record
unfolding frame_cell
returns-then-not-plain_record c = no_record (iso_outgoing c.args.flags most_data) c.args.s.now (sym c.plain_record.ensures ∙ c.if-not-plain_record.true)

pub outgoing-requires : goal.outgoing-requires
outgoing-requires c = record { long = c.requires; valid = true_T _ (sym c.plain_record.ensures ∙ c.if-not-plain_record.false) }

pub returns : goal.returns
unfolding frame_cell
returns c = c.outgoing.ensures
    ∙ a_record (iso_outgoing c.args.flags most_data) c.args.s.now (sym c.plain_record.ensures ∙ c.if-not-plain_record.false)
