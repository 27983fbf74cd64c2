-- `shift_looks::held` meets its contract. Assumes nothing.
use native.Mathlib.Omega.{arith}
use Rattle.shift_looks.proofs.Looking.{none_held, so_many_held, few_held}
use Rattle.shift_looks.proofs.held.Goals as goal

pub returns-then-r-eq0 : goal.returns-then-r-eq0
returns-then-r-eq0 c = (none_held c.args.r.now c.requires.0 c.requires.1 c.if-r-eq0.true, omega arith)

pub returns : goal.returns
returns c = (
  so_many_held c.args.r.now c.requires.0 c.requires.1 c.if-r-eq0.false _ c.wide.ensures.0,
  few_held c.args.r.now c.requires.0 c.requires.1 c.if-r-eq0.false _ c.wide.ensures.0,
)
