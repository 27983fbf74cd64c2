use Rattle.stored_records.specs.Held.{cell}
use Rattle.codec.specs.Code.{valid_all}
use lib.ListN.{get_or, drop}
use Prim.Native.Nat.{◌-◌, ◌≤◌}
use mathlib.Core.Path.{◌≡◌}
use Rattle.stored_records.proofs.store.Given as goal

abbrev pub invariant-loop-i : goal.invariant-loop-i
invariant-loop-i l = (l.i ≤ l.n) × (l.n ≤ l.capacity) × (l.n ≡ get_or l.s 0 0) × (l.good ≡ valid_all (cell l.sending l.flags) l.i (drop 1 l.s))

abbrev pub decreases-loop-i : goal.decreases-loop-i
decreases-loop-i l = l.n - l.i
