-- `talk_head::put_head` meets its contract: kind, four numbers, mark. Assumes nothing.
use mathlib.Core.Path.{sym, ◌∙◌}
use native.Mathlib.Omega.{arith}
use lib.ListN.{length-set}
use Rattle.talk_head.proofs.Bytes.{head_long, head_stored}
use Rattle.talk_head.proofs.put_head.Goals as goal

pub slice_bounds-put_numbers-end : goal.slice_bounds-put_numbers-end
slice_bounds-put_numbers-end c = simp length-set (omega arith)

pub bounds-t : goal.bounds-t
bounds-t c =
    omega (arith, head_long c.args.t.now c.put_numbers.new.s c.args.h c.requires c.put_numbers.ensures)

pub shape_of-t : goal.shape_of-t
shape_of-t c =
    simp length-set (head_long c.args.t.now c.put_numbers.new.s c.args.h c.requires c.put_numbers.ensures ∙ sym c.requires)

pub returns : goal.returns
returns c =
    head_stored c.args.t.now c.put_numbers.new.s c.args.h c.mark.result c.requires c.put_numbers.ensures c.mark.ensures
