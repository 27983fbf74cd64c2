use Prim.Native.Nat.{◌-◌}
use mathlib.Core.Path.{◌≡◌}
use Rattle.machine.specs.Channel.{filter_in}
use lib.ListN.{length}
use Rattle.layout.specs.Memory.{filters}
use Rattle.store_filling.proofs.Walk.{Walked}
use Rattle.store_filling.proofs.fill_filters.Given as goal

abbrev pub invariant-loop : goal.invariant-loop
invariant-loop l = Walked filter_in (λ x. x) filters l.store l.at l.n l.part l.next (l.n - l.counter) × (length l.part ≡ length l.initial.part)
