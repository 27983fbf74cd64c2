use mathlib.Core.Path.{◌≡◌}
use Prim.Native.Nat.{ℕ, ◌-◌, ◌≤◌}
use lib.ListN.{length}
use Rattle.codec.proofs.Loop.{turned}
use Rattle.machine.specs.Channel.{later_slot}
use Rattle.machine.specs.Limits.{most_places}
use Rattle.layout.specs.Memory.{periodics}
use Rattle.stores.specs.Periodics.{PeriodicPart}
use Rattle.timers.proofs.later_places.Given as goal

abbrev pub invariant-loop-i : goal.invariant-loop-i
invariant-loop-i l =
    (l.i ≤ most_places) × PeriodicPart l.part × ((flags : ℕ) → (periodics flags).get l.part ≡ turned (later_slot l.us) l.i ((periodics flags).get l.initial.part)) × (length l.part ≡ length l.initial.part)

abbrev pub decreases-loop-i : goal.decreases-loop-i
decreases-loop-i l = most_places - l.i
