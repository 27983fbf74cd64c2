-- `box_validity::valid` meets its contract. Assumes nothing.
use Rattle.box_validity.proofs.Whole.{not_long, rows_are}
use Rattle.codec.proofs.Lists.{bytes_of_law}
use native.Mathlib.Omega.{arith}
use mathlib.Core.List.{List}
use Prim.Native.Nat.{ℕ}
use Rattle.box_validity.proofs.valid.Goals as goal

pub returns-then-mem-ne-BOX : goal.returns-then-mem-ne-BOX
returns-then-mem-ne-BOX c = not_long c.args.mem.now c.if-mem-ne-BOX.true

pub returns : goal.returns
returns c = let m : List ℕ = c.args.mem.now in
    rows_are m (omega arith) (bytes_of_law m (λ i. (c.shared_slice_known-1.given i).fits)) _ _ c.raw_rows.ensures c.iso_rows.ensures
