-- `records::put_padded` meets its contract: bytes, then zeros. Assumes nothing.
use mathlib.Core.Path.{refl}
use mathlib.Core.List.{List, ◌++◌}
use Prim.Native.Nat.{ℕ, ◌-◌}
use lib.ListN.{length, drop}
use native.Mathlib.Omega.{arith}
use Rattle.records.proofs.Laws.{padded_over}
use Rattle.records.proofs.put_padded.Goals as goal

pub returns : goal.returns
returns c = let copied = c.copy in
    let d : List ℕ = c.args.d.now in
    let b : List ℕ = c.args.b.now in
    padded_over (length b - 0) (length (copied.new.d ++ drop (length b - 0) d) - length b) d b copied.new.d c.zero.new.d (omega arith) c.requires copied.ensures refl c.zero.ensures
