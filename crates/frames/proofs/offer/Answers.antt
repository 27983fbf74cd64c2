use mathlib.Core.Path.{sym, ◌∙◌}
use mathlib.Core.List.{List, ◌++◌}
use Prim.Native.Nat.{ℕ}
use Rattle.machine.specs.Message.{id_bytes}
use Rattle.filterbank.proofs.Lent.{mapped_lent}
use Rattle.frames.proofs.Laws.{as_row, not_taken, kept_out, let_in, width_taken, frame_long, row_holds, row_is, verdict_is}
use Rattle.frames.proofs.offer.Goals as goal

pub returns-then-not-takes_width : goal.returns-then-not-takes_width
returns-then-not-takes_width c =
    let r : List ℕ = c.args.r.now in
    let b : List ℕ = id_bytes c.args.id ++ c.args.bytes.now in
    not_taken r c.requires.0 c.args.clock c.args.wide b
    (sym (width_taken r c.requires.0 c.args.clock c.args.wide b _ _ c.word_at.ensures.0 c.takes_width.ensures) ∙ c.if-not-takes_width.true)

pub lets_in-requires : goal.lets_in-requires
lets_in-requires c =
    (mapped_lent c.args.r.now c.requires.0, row_holds c.args.id c.args.bytes.now _ (c.put_frame.ensures ∙ as_row _), c.requires.2)

pub returns-then-not-lets_in : goal.returns-then-not-lets_in
returns-then-not-lets_in c =
    let r : List ℕ = c.args.r.now in
    let b : List ℕ = id_bytes c.args.id ++ c.args.bytes.now in
    kept_out r c.requires.0 c.args.clock c.args.wide b
    (sym (width_taken r c.requires.0 c.args.clock c.args.wide b _ _ c.word_at.ensures.0 c.takes_width.ensures) ∙ c.if-not-takes_width.false)
    (sym (verdict_is r c.requires.0 c.args.clock c.args.wide b _ (λ flags. c.lets_in.ensures flags c.args.bytes.now (row_is r c.requires.0 c.args.clock c.args.wide b _ _ (c.put_frame.ensures ∙ as_row b) (frame_long c.args.id c.args.bytes.now)))) ∙ c.if-not-lets_in.true)

pub returns : goal.returns
returns c =
    let r : List ℕ = c.args.r.now in
    let b : List ℕ = id_bytes c.args.id ++ c.args.bytes.now in
    let_in r c.requires.0 c.args.clock c.args.wide b
    (sym (width_taken r c.requires.0 c.args.clock c.args.wide b _ _ c.word_at.ensures.0 c.takes_width.ensures) ∙ c.if-not-takes_width.false)
    (sym (verdict_is r c.requires.0 c.args.clock c.args.wide b _ (λ flags. c.lets_in.ensures flags c.args.bytes.now (row_is r c.requires.0 c.args.clock c.args.wide b _ _ (c.put_frame.ensures ∙ as_row b) (frame_long c.args.id c.args.bytes.now)))) ∙ c.if-not-lets_in.false)
    _ c.receive.ensures
