-- `framing::first` meets its contract: two bytes, then payload. Assumes nothing.
use mathlib.Core.Path.{◌≡◌, refl, ap, ◌∙◌}
use native.Mathlib.Omega.{arith}
use lib.ListN.{length, length-set}
use lib.Seq.{length-take-le}
use Rattle.framing.proofs.Laws.{two_long, first_done}
use Rattle.framing.proofs.first.Goals as goal

-- src/lib.rt:74:18
pub slice_bounds-copy-end : goal.slice_bounds-copy-end
slice_bounds-copy-end c = simp length-set (omega arith)

-- src/lib.rt:67:1
pub shape_of-d : goal.shape_of-d
shape_of-d c =
    let p = c.args.payload.now in
    let ys = c.copy.new.d in
    let long : length ys ≡ 6 = ap length c.copy.ensures ∙ length-take-le 6 p c.requires.1 in
    two_long 6 _ _ c.args.d.now ys (omega arith) long

-- src/lib.rt:67:1
pub returns : goal.returns
returns c =
    first_done c.args.d.now c.copy.new.d c.args.payload.now c.requires.0 _ _ 6 6 refl refl refl c.copy.ensures c.requires.1
