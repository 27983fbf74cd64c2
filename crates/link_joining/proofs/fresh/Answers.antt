use native.Mathlib.Omega.{arith}
use lib.ListN.{set, length-set}
use Rattle.link_joining.proofs.Bytes.{anew_is}
use Rattle.link_joining.proofs.fresh.Goals as goal

pub slice_bounds-put_word-end : goal.slice_bounds-put_word-end
slice_bounds-put_word-end c = simp length-set (omega arith)

pub shape_of-s : goal.shape_of-s
shape_of-s c =
    omega (arith, length-set c.zero.new.d 0 c.args.block, length-set (set c.zero.new.d 0 c.args.block) 1 c.args.pace)

pub returns : goal.returns
returns c a bs e =
    anew_is a bs c.args.block c.args.pace e c.args.s.now _ _ c.requires c.zero.ensures c.put_word.ensures
