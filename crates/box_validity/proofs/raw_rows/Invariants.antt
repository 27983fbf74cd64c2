use Rattle.layout.specs.Memory.{region}
use Rattle.layout.specs.Sizes.{number_size}
use Rattle.machine.specs.Limits.{lines}
use Rattle.codec.specs.Code.{valid_all}
use lib.ListN.{drop}
use Prim.Native.Nat.{◌≤◌}
use mathlib.Core.Path.{◌≡◌}
use Rattle.box_validity.proofs.raw_rows.Given as goal

abbrev pub invariant-loop-i : goal.invariant-loop-i
invariant-loop-i l = (l.i ≤ lines) × (l.good ≡ valid_all region l.i (drop number_size l.mem))
