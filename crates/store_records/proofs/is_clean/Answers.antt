-- `store_records::is_clean` meets its contract: the clean record is written aside and compared. Assumes nothing.
use mathlib.Core.Path.{sym, ap, ◌∙◌}
use native.Mathlib.Omega.{arith}
use borrow.Author.Rules.{rules}
use Rattle.machine.specs.Message.{size_of, clean}
use Rattle.machine.specs.Store.{same_bytes, is_clean}
use Rattle.layout.proofs.Memory.{shown_is}
use Rattle.store_records.proofs.Parts.{alike, too_long}
use Rattle.store_records.proofs.is_clean.Goals as goal

pub returns-then-word_at-gt-MOST_DATA : goal.returns-then-word_at-gt-MOST_DATA
returns-then-word_at-gt-MOST_DATA c =
    let size = c.word_at.ensures.0 in
    let more = c.if-word_at-gt-MOST_DATA.true in
    too_long c.args.m.now c.requires (omega arith)

pub put_clean-requires : goal.put_clean-requires
unfolding size_of
put_clean-requires c = search rules

pub returns : goal.returns
unfolding is_clean
returns c =
    let m = c.args.m.now in
    c.same.ensures ∙ alike _ _ ∙ ap (same_bytes m) (c.put_clean.ensures ∙ sym (shown_is (clean m)))
