-- `iso_transfers::payload` meets its contract. Assumes nothing.
use Rattle.iso_transfers.proofs.Transfers.{payload_over, payload_good}
use Rattle.layout.specs.Sizes.{number_size}
use native.Mathlib.Omega.{arith}
use lib.ListN.{length}
use Prim.Native.Nat.{ℕ, ◌+◌, ◌-◌}
use mathlib.Core.List.{List}
use mathlib.Core.Path.{◌∙◌, refl}
use Rattle.iso_transfers.proofs.payload.Goals as goal

pub returns-then-n-gt-MOST_PAYLOAD : goal.returns-then-n-gt-MOST_PAYLOAD
returns-then-n-gt-MOST_PAYLOAD c = let w = c.word_at-n.ensures in
    payload_over c.args.s.now c.requires w.1 (omega arith)

pub returns : goal.returns
returns c = let s : List ℕ = c.args.s.now in
    let n : ℕ = c.word_at-n.result in
    let w = c.word_at-n.ensures in
    c.all_zero.ensures ∙ payload_good s c.requires w.1 n (number_size + n) (length s - (number_size + n)) w.0 (omega arith) refl (omega arith)
