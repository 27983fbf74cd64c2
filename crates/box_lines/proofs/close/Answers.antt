-- `box_lines::close` meets its contract. Assumes nothing.
use mathlib.Core.Path.{refl}
use native.Mathlib.Omega.{arith}
use Rattle.memory.proofs.Memory.{valid_long}
use Rattle.box_lines.proofs.Laws.{all_closed}
use Rattle.box_lines.proofs.close.Goals as goal

pub slice_bounds-zero-end : goal.slice_bounds-zero-end
slice_bounds-zero-end c = omega (arith, valid_long _ c.requires)

pub returns : goal.returns
returns c rates = all_closed rates _ c.requires _ refl _ c.zero.ensures
