use mathlib.Core.Path.{◌≡◌}
use Prim.Native.Nat.{◌≤◌}
use lib.ListN.{length}
use Rattle.codec.specs.Code.{many, put_all}
use Rattle.codec.proofs.Loop.{turned}
use Rattle.machine.specs.Limits.{lines}
use Rattle.machine.specs.Channel.{on_advance}
use Rattle.layout.specs.Memory.{region}
use Rattle.box_times.proofs.advance_raws.Given as goal

abbrev pub invariant-loop-i : goal.invariant-loop-i
invariant-loop-i l = (l.i ≤ lines) × (l.s ≡ put_all region (turned (on_advance l.us) l.i ((many lines region).get l.initial.s))) × (length l.s ≡ length l.initial.s)
