use Prim.Native.Nat.{◌+◌, ◌-◌}
use lib.ListN.{length}
use Rattle.importing.proofs.Lines.{Goes}
use Rattle.importing.proofs.import_lines.Given as goal

abbrev pub invariant-loop-at : goal.invariant-loop-at
invariant-loop-at l = Goes l.start l.log l.initial.out l.out l.at l.lines l.place l.time

abbrev pub decreases-loop-at : goal.decreases-loop-at
decreases-loop-at l = length l.log + 1 - l.at
