use mathlib.Core.Path.{◌≡◌}
use Prim.Native.Nat.{◌≤◌}
use lib.ListN.{length}
use Rattle.codec.specs.Code.{many, put_all}
use Rattle.codec.proofs.Loop.{turned}
use Rattle.machine.specs.Limits.{lines}
use Rattle.iso.specs.Iso.{on_iso_advance}
use Rattle.iso_layout.specs.Region.{iso_region}
use Rattle.box_times.proofs.advance_isos.Given as goal

abbrev pub invariant-loop-i : goal.invariant-loop-i
invariant-loop-i l = (l.i ≤ lines) × (l.s ≡ put_all iso_region (turned (on_iso_advance l.us) l.i ((many lines iso_region).get l.initial.s))) × (length l.s ≡ length l.initial.s)
