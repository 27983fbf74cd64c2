-- `framing::next` meets its contract: one byte, then payload. Assumes nothing.
use mathlib.Core.Path.{◌≡◌}
use Prim.Native.Nat.{◌+◌, ◌-◌, ◌≤◌}
use native.Mathlib.Omega.{arith}
use lib.ListN.{length, length-set}
use Rattle.framing.proofs.Laws.{one_long, next_long, next_done}
use Rattle.framing.proofs.next.Goals as goal

-- src/lib.rt:62:18
pub slice_bounds-copy-end : goal.slice_bounds-copy-end
slice_bounds-copy-end c = simp length-set (omega arith)

-- src/lib.rt:54:1
pub shape_of-d : goal.shape_of-d
shape_of-d c =
    let d = c.args.d.now in
    let p = c.args.payload.now in
    let ys = c.copy.new.d in
    let part = c.part-m in
    let same : c.args.n + part.result - c.args.n ≡ part.result = omega arith in
    let x = next_long d ys p c.requires.0 c.args.n part.result _ part.ensures same c.copy.ensures in
    let long : length ys ≡ part.result = x.0 in
    let small : part.result ≤ 7 = x.1 in
    one_long (1 + part.result - 1) _ d ys (omega arith) (omega arith)

-- src/lib.rt:54:1
pub returns : goal.returns
returns c =
    let part = c.part-m in
    let same : c.args.n + part.result - c.args.n ≡ part.result = omega arith in
    next_done c.args.d.now c.copy.new.d c.args.payload.now c.requires.0 _ c.args.n part.result _ (1 + part.result - 1) c.numbered.ensures part.ensures same c.copy.ensures
