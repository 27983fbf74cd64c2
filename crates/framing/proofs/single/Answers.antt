-- `framing::single` meets its contract: one byte, then payload. Assumes nothing.
use mathlib.Core.Path.{◌≡◌, refl, ap}
use Prim.Native.Nat.{◌+◌, ◌-◌}
use native.Mathlib.Omega.{arith}
use lib.ListN.{length, length-set}
use Rattle.framing.proofs.Laws.{one_long, single_done}
use Rattle.framing.proofs.single.Goals as goal

-- src/lib.rt:86:18
pub slice_bounds-copy-end : goal.slice_bounds-copy-end
slice_bounds-copy-end c = simp length-set (omega arith)

-- src/lib.rt:79:1
pub shape_of-d : goal.shape_of-d
shape_of-d c =
    let p = c.args.payload.now in
    let ys = c.copy.new.d in
    let long : length ys ≡ length p = ap length c.copy.ensures in
    one_long (1 + length p - 1) _ c.args.d.now ys (omega arith) (omega arith)

-- src/lib.rt:79:1
pub returns : goal.returns
returns c =
    single_done c.args.d.now c.copy.new.d c.args.payload.now c.requires.0 (1 + length c.args.payload.now - 1) _ c.copy.ensures refl c.requires.1
