-- `shift_counts::lost` meets its contract. Assumes nothing.
use native.Mathlib.Omega.{arith}
use Rattle.shift_counts.proofs.Lines.{none_comes, room_left, all_full}
use Rattle.shift_counts.proofs.lost.Goals as goal

pub returns-then-not-comes : goal.returns-then-not-comes
returns-then-not-comes c = (none_comes _ _ c.if-not-comes.true, omega arith)

pub returns-then-held : goal.returns-then-held
returns-then-held c = (room_left _ _ c.if-held.true, omega arith)

pub returns : goal.returns
returns c = (all_full _ _ c.if-not-comes.false c.if-held.false, omega arith)
