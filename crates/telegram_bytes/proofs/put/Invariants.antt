use Prim.Native.Nat.{◌≤◌}
use mathlib.Core.Path.{◌≡◌}
use mathlib.Core.List.{◌++◌}
use lib.ListN.{length, take, drop}
use Rattle.telegram_bytes.proofs.put.Given as goal

abbrev pub invariant-loop-i : goal.invariant-loop-i
invariant-loop-i l = (l.buf ≡ take l.i l.bytes ++ drop l.i l.initial.buf) × (l.i ≤ length l.bytes) × (length l.buf ≡ length l.initial.buf)
