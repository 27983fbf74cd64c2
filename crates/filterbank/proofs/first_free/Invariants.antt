use mathlib.Core.Path.{◌≡◌}
use Prim.Native.Nat.{ℕ, ◌+◌}
use lib.ListN.{drop}
use Rattle.machine.specs.Filter.{free}
use Rattle.layout.specs.Memory.{filters}
use Rattle.filterbank.proofs.first_free.Given as goal

abbrev pub invariant-loop-i : goal.invariant-loop-i
invariant-loop-i l = (flags : ℕ) → free ((filters flags).get l.part) ≡ l.i + free (drop l.i ((filters flags).get l.part))
