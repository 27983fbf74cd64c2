-- `iso_transfers::transfer` meets its contract. Assumes nothing.
use Rattle.iso_transfers.proofs.Transfers.{go_on_at, transfer_flat}
use Rattle.stored_records.proofs.Parts.{rest_part}
use Rattle.iso_layout.specs.Sizes.{payload_size, payload_in, transfer_in}
use Rattle.iso_layout.specs.Region.{transfer_fits, transferred, payload508}
use lib.ListN.{get_or}
use lib.Dec.{eqb, leb}
use Prim.Native.Nat.{ℕ, ◌+◌}
use mathlib.Core.List.{List}
use mathlib.Core.Bool.{Bool, ◌&&◌}
use mathlib.Core.Path.{sym, ap, ◌∙◌}
use Rattle.iso_transfers.proofs.transfer.Goals as goal

pub returns : goal.returns
returns c = let t : List ℕ = c.args.t.now in
    let p = c.payload.ensures ∙ ap payload508.valid (rest_part (transfer_in + payload_in) payload_size t c.requires) in
    ap (λ (x : Bool). leb (go_on_at t) 1 && x && c.fits.result) p
    ∙ transfer_flat t c.requires c.word_at-5.ensures.1 c.fits.result
    (λ b e.
    c.fits.ensures b (e ∙ sym c.word_at-5.ensures.0)
    ∙ (λ j. transfer_fits (transferred (get_or t transfer_in 0) (c.word_at.ensures.0 j) (c.word_at-2.ensures.0 j) (c.word_at-3.ensures.0 j) (c.word_at-4.ensures.0 j) (eqb 1 (go_on_at t)) b)))
