use mathlib.Core.Path.{◌≡◌}
use mathlib.Core.Bool.{true}
use mathlib.Core.List.{[]}
use Prim.Native.Nat.{◌≤◌}
use lib.ListN.{get_or, take}
use Rattle.codec.specs.Plain.{all_below}
use Rattle.machine.specs.Limits.{most_data}
use Rattle.filterwalk.proofs.Looks.{fits_at, Looked}
use Rattle.filterwalk.proofs.hits.Given as goal

abbrev pub invariant-loop-b : goal.invariant-loop-b
invariant-loop-b l = (l.size ≤ most_data) × (all_below l.b (fits_at (take l.len l.frame) (get_or l.masks l.f []) (get_or l.patterns l.f [])) ≡ true)

abbrev pub invariant-filters : goal.invariant-filters
invariant-filters l = Looked l.heads l.masks l.patterns l.kind l.wide (take l.len l.frame) l.f
