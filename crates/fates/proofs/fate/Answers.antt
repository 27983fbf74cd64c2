-- `fates::fate` meets its contract. Assumes nothing.
use mathlib.Core.Path.{◌∙◌}
use mathlib.Core.List.{List, ◌++◌}
use Prim.Native.Nat.{ℕ}
use Rattle.machine.specs.Message.{id_bytes}
use Rattle.filterbank.proofs.Lent.{part_lent}
use Rattle.frames.proofs.Laws.{as_row, frame_long, row_holds}
use Rattle.fates.proofs.Laws.{not_taken, taken}
use Rattle.fates.proofs.fate.Goals as goal

pub returns-then-not-takes_width : goal.returns-then-not-takes_width
returns-then-not-takes_width c =
    not_taken c.args.r.now c.requires.0 c.args.wide (id_bytes c.args.id ++ c.args.bytes.now) _ _ c.word_at.ensures.0 c.takes_width.ensures c.if-not-takes_width.true

pub by_filters-requires : goal.by_filters-requires
by_filters-requires c =
    (part_lent c.args.r.now c.requires.0, row_holds c.args.id c.args.bytes.now _ (c.put_frame.ensures ∙ as_row _))

pub returns : goal.returns
returns c =
    let b : List ℕ = id_bytes c.args.id ++ c.args.bytes.now in
    taken c.args.r.now c.requires.0 c.args.wide b _ _ c.word_at.ensures.0 c.takes_width.ensures c.if-not-takes_width.false _ _ _ (c.put_frame.ensures ∙ as_row b) (frame_long c.args.id c.args.bytes.now) c.by_filters.ensures
