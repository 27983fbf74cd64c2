use Prim.Native.Nat.{◌+◌}
use mathlib.Core.Path.{◌≡◌}
use lib.ListN.{drop}
use Rattle.text_reader.specs.Reading.{before}
use Rattle.text_reader.proofs.find.Given as goal

abbrev pub invariant-loop-i : goal.invariant-loop-i
invariant-loop-i l = l.i + before l.byte (drop l.i l.s) ≡ l.from + before l.byte (drop l.from l.s)
