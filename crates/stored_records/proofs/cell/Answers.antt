-- `stored_records::cell` meets its contract, for sending and for reading. Assumes nothing.
use Rattle.stored_records.proofs.Records.{out_flat, in_flat}
use Rattle.stored_records.specs.Held.{cell}
use Rattle.codec.proofs.Lists.{bytes_of_law}
use Prim.Native.Nat.{ℕ}
use mathlib.Core.List.{List}
use mathlib.Core.Bool.{Bool, ◌&&◌}
use mathlib.Core.Path.{ap, ap₂, ◌∙◌, sym}
use Rattle.stored_records.proofs.cell.Goals as goal

pub returns-then-sending : goal.returns-then-sending
unfolding cell
returns-then-sending c = let s : List ℕ = c.args.s.now in
    ap₂ (λ (x y : Bool). x && y) c.plain_record.ensures c.outgoing.ensures
    ∙ out_flat s c.requires (bytes_of_law s (λ i. (c.shared_slice_known-1.given i).fits)) c.args.flags
    ∙ ap (λ (b : Bool). (cell b c.args.flags).valid s) (sym c.if-sending.true)

pub returns : goal.returns
unfolding cell
returns c = let s : List ℕ = c.args.s.now in
    ap₂ (λ (x y : Bool). x && y) c.plain_record-2.ensures c.incoming.ensures
    ∙ in_flat s c.requires (bytes_of_law s (λ i. (c.shared_slice_known-1.given i).fits)) c.args.flags
    ∙ ap (λ (b : Bool). (cell b c.args.flags).valid s) (sym c.if-sending.false)
