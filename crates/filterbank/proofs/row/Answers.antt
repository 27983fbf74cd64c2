-- `filterbank::row` meets its contract: the memory's bytes in front, zeros behind them. Assumes nothing.
use mathlib.Core.Path.{◌≡◌, ap, ◌∙◌}
use mathlib.Core.List.{List, ◌++◌}
use Prim.Native.Nat.{ℕ, ◌+◌, ◌-◌}
use native.Mathlib.Omega.{arith}
use lib.ListN.{take, drop}
use Rattle.codec.specs.Plain.{zeros}
use Rattle.machine.specs.Limits.{most_data}
use Rattle.filterbank.proofs.Rows.{row_done}
use Rattle.filterbank.proofs.row.Goals as goal

pub returns : goal.returns
returns c =
    let a = c.args in
    let n : a.at + a.size - a.at ≡ a.size = omega arith in
    row_done a.mem.now a.at a.size _ (omega arith) (omega arith)
    (ap (λ (l : List ℕ). l ++ drop a.size (zeros most_data)) (c.copy_from_slice.ensures.after ∙ ap (λ (k : ℕ). take k (drop a.at a.mem.now)) n))
