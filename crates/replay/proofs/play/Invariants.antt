-- `replay::play` keeps a valid memory, and ends: each piece moves the place.
use Rattle.std.proofs.Common.{◌≡◌, ◌-◌, T, length}
use Rattle.memory.specs.Memory.{valid}
use Rattle.replay.proofs.play.Given as goal

abbrev pub invariant-loop-at : goal.invariant-loop-at
invariant-loop-at g l = T (valid l.mem) × (length l.mem ≡ length l.initial.mem) × (length l.out ≡ length l.initial.out)

abbrev pub decreases-loop-at : goal.decreases-loop-at
decreases-loop-at g l = length l.recording - l.at
