use Prim.Native.Nat.{◌*◌}
use Rattle.log_events.proofs.Pouring.{Poured}
use Rattle.log_events.proofs.put_data.Given as goal

abbrev pub invariant-loop-k : goal.invariant-loop-k
invariant-loop-k l = Poured l.initial.out l.at l.text l.out l.place (2 * l.k)
