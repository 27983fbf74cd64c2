use Prim.Native.Nat.{◌-◌}
use mathlib.Core.Path.{◌≡◌}
use Rattle.machine.specs.Channel.{periodic_in, starts_anew}
use lib.ListN.{length}
use Rattle.layout.specs.Memory.{periodics}
use Rattle.store_filling.proofs.Walk.{Walked}
use Rattle.store_filling.proofs.fill_periodics.Given as goal

abbrev pub invariant-loop : goal.invariant-loop
invariant-loop l = Walked periodic_in starts_anew periodics l.store l.at l.n l.part l.next (l.n - l.counter) × (length l.part ≡ length l.initial.part)
