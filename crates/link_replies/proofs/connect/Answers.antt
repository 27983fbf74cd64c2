use native.Mathlib.Omega.{arith}
use lib.ListN.{length-set}
use Rattle.link_replies.proofs.Bytes.{connected}
use Rattle.link_replies.proofs.connect.Goals as goal

pub slice_bounds-put_word-end : goal.slice_bounds-put_word-end
slice_bounds-put_word-end c = simp length-set (omega (arith, c.requires.long))

pub slice_bounds-zero-end : goal.slice_bounds-zero-end
slice_bounds-zero-end c = omega (arith, c.requires.long, length-set c.args.part.now 0 2)

pub shape_of-part : goal.shape_of-part
shape_of-part c = omega (arith, length-set c.args.part.now 0 2)

pub returns : goal.returns
returns c a n t e =
    connected c.args.part.now c.requires a n t e c.args.tx _ c.put_word.ensures _ c.zero.ensures
