-- `iso_stored::cell` meets its contract, for sending and for reading. Assumes nothing.
use Rattle.std.specs.Prelude.{if◌then◌else◌}
use Rattle.iso_stored.proofs.Records.{no_held, a_held}
use Rattle.iso_layout.specs.Record.{rec536, iso_outgoing, iso_incoming}
use Rattle.iso.specs.Limits.{iso_data}
use Rattle.codec.proofs.Tests.{true_T}
use Prim.Native.Nat.{ℕ}
use mathlib.Core.List.{List}
use mathlib.Core.Bool.{Bool}
use mathlib.Core.Path.{sym, ap, ◌∙◌}
use Rattle.iso_stored.proofs.cell.Goals as goal

pub returns-then-not-plain_record : goal.returns-then-not-plain_record
returns-then-not-plain_record c = no_held c.args.sending c.args.flags c.args.s.now (sym c.plain_record.ensures ∙ c.if-not-plain_record.true)

pub outgoing-requires : goal.outgoing-requires
outgoing-requires c = record { long = c.requires; valid = true_T _ (sym c.plain_record.ensures ∙ c.if-not-plain_record.false) }

pub returns-then-sending : goal.returns-then-sending
returns-then-sending c = let s : List ℕ = c.args.s.now in
    c.outgoing.ensures
    ∙ ap (λ (b : Bool). if b then iso_outgoing c.args.flags iso_data (rec536.get s) else iso_incoming c.args.flags (rec536.get s)) (sym c.if-sending.true)
    ∙ a_held c.args.sending c.args.flags s (sym c.plain_record.ensures ∙ c.if-not-plain_record.false)

pub incoming-requires : goal.incoming-requires
incoming-requires c = record { long = c.requires; valid = true_T _ (sym c.plain_record.ensures ∙ c.if-not-plain_record.false) }

pub returns : goal.returns
returns c = let s : List ℕ = c.args.s.now in
    c.incoming.ensures
    ∙ ap (λ (b : Bool). if b then iso_outgoing c.args.flags iso_data (rec536.get s) else iso_incoming c.args.flags (rec536.get s)) (sym c.if-sending.false)
    ∙ a_held c.args.sending c.args.flags s (sym c.plain_record.ensures ∙ c.if-not-plain_record.false)
