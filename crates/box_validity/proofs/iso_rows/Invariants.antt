use Rattle.iso_layout.specs.Region.{iso_region}
use Rattle.memory.specs.Sizes.{isos_at}
use Rattle.machine.specs.Limits.{lines}
use Rattle.codec.specs.Code.{valid_all}
use lib.ListN.{drop}
use Prim.Native.Nat.{◌≤◌}
use mathlib.Core.Path.{◌≡◌}
use Rattle.box_validity.proofs.iso_rows.Given as goal

abbrev pub invariant-loop-i : goal.invariant-loop-i
invariant-loop-i l = (l.i ≤ lines) × (l.good ≡ valid_all iso_region l.i (drop isos_at l.mem))
