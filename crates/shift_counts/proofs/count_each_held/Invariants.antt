use mathlib.Core.Path.{◌≡◌}
use Prim.Native.Nat.{◌+◌, ◌*◌, ◌-◌, ◌≤◌}
use lib.ListN.{length}
use Rattle.memory.specs.Memory.{load}
use Rattle.recording_sizes.specs.Sizes.{longest}
use Rattle.shift_places.specs.Places.{of_report}
use Rattle.shift_cells.specs.Sums.{plus, Below}
use Rattle.shift_counts.proofs.Lines.{first_held}
use Rattle.shift_counts.proofs.count_each_held.Given as goal

abbrev pub invariant-loop-line : goal.invariant-loop-line
invariant-loop-line l = (l.line ≤ 4) × (length l.numbers ≡ of_report) × Below (longest + l.line * 32) l.numbers × (l.numbers ≡ plus l.initial.numbers (first_held l.which l.line (load l.mem)))

abbrev pub decreases-loop-line : goal.decreases-loop-line
decreases-loop-line l = 4 - l.line
