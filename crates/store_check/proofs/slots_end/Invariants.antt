use Prim.Native.Nat.{ℕ, ◌-◌, ◌≤◌}
use mathlib.Core.Option.{Option}
use Rattle.machine.specs.Limits.{most_places}
use Rattle.store_check.specs.Walk.{ending, Finds}
use Rattle.store_check.proofs.Slots.{Left}
use Rattle.store_check.proofs.slots_end.Given as goal

abbrev pub invariant-loop : goal.invariant-loop
invariant-loop g l =
    (l.last ≤ most_places)
    × ((ends : ℕ → Option ℕ) → Finds ends (goal.F-post g l.find) → Left (ending ends) l.store l.at l.last (l.end - l.counter) l.place)
