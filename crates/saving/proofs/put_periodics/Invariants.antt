use Rattle.machine.specs.Store.{periodic_bytes}
use Prim.Native.Nat.{◌≤◌}
use Rattle.machine.specs.Limits.{most_places}
use Rattle.store_sizes.specs.Entries.{entries_from, periodics_of}
use Rattle.saving.proofs.Going.{Going}
use Rattle.saving.proofs.put_periodics.Given as goal

abbrev pub invariant-loop-i : goal.invariant-loop-i
invariant-loop-i l = (l.i ≤ most_places) × Going l.initial.out l.initial.next (entries_from periodic_bytes 0 (periodics_of l.part)) (entries_from periodic_bytes l.i (periodics_of l.part)) l.next l.out
