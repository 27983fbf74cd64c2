use Prim.Native.Nat.{◌-◌}
use lib.ListN.{length}
use Rattle.exporting.proofs.Turning.{Goes}
use Rattle.exporting.proofs.export_events.Given as goal

abbrev pub invariant-loop-next : goal.invariant-loop-next
invariant-loop-next l = Goes l.recording l.at l.start l.initial.out l.next l.time l.out l.place

abbrev pub decreases-loop-next : goal.decreases-loop-next
decreases-loop-next l = length l.recording - l.next
