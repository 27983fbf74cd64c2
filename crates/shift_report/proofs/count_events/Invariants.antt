use Prim.Native.Nat.{◌-◌}
use mathlib.Core.Path.{◌≡◌}
use lib.ListN.{length}
use Rattle.shift_report.specs.Counting.{Counting}
use Rattle.shift_report.proofs.count_events.Given as goal

abbrev pub invariant-loop-at : goal.invariant-loop-at
invariant-loop-at l = Counting l.recording l.mem l.numbers l.at × (length l.mem ≡ length l.initial.mem) × (length l.numbers ≡ length l.initial.numbers) × (length l.out ≡ length l.initial.out)

abbrev pub decreases-loop-at : goal.decreases-loop-at
decreases-loop-at l = length l.recording - l.at
