-- `iso_launching::drop_oldest` meets its contract: the others moved, the count one less. Assumes nothing.
use Prim.Native.Nat.{◌+◌, ◌*◌, ◌-◌}
use native.Mathlib.Omega.{arith}
use lib.ListN.{get_or}
use Rattle.iso.specs.Limits.{iso_record_size}
use Rattle.iso_launching.proofs.Laws.{without_oldest}
use Rattle.iso_launching.proofs.drop_oldest.Goals as goal

-- src/lib.rt:30:1
pub returns : goal.returns
returns c =
    let s = c.args.s.now in
    without_oldest s c.requires.0 c.requires.1 (1 + get_or s 0 0 * iso_record_size - 1) (omega arith) c.move_down.ensures
