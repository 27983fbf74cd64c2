-- `link_acknowledging::restart` meets its contract: the block's bytes, whatever the message's state. Assumes nothing.
use native.Mathlib.Omega.{arith}
use mathlib.Core.Path.{◌∙◌}
use lib.ListN.{set, length-set}
use Rattle.link_acknowledging.proofs.Messages.{number_long, restarts}
use Rattle.link_acknowledging.proofs.restart.Goals as goal

pub slice_bounds-put_word-end : goal.slice_bounds-put_word-end
slice_bounds-put_word-end c = simp length-set (omega arith)

pub shape_of-s : goal.shape_of-s
shape_of-s c =
    let long = c.requires.0 in
    number_long (set (set (set (set c.args.s.now 0 1) 5 c.args.taken) 6 0) 7 c.args.again) _ (simp length-set (omega arith)) c.put_word.ensures ∙ simp length-set

pub returns : goal.returns
returns c =
    restarts c.args.s.now c.requires.0 c.requires.1 c.args.taken c.args.again _ c.put_word.ensures
