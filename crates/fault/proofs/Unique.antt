-- ANY TWO OUTCOMES ARE EQUAL, of each public function here. Assumes nothing.
use Prim.Native.Nat.{ℕ}
use mathlib.Core.List.{List}
use mathlib.Core.Path.{◌≡◌, sym, ◌∙◌}
use Rattle.codec.specs.Settled.{Settled}
use Rattle.fault.specs.declared.Spot.{Spot}
use Rattle.fault.specs.declared.Fault.{Fault}
use Rattle.fault.specs.Fault.{event_fault, fault_in}

pub event_settled : (recording : List ℕ) (at : ℕ) → Settled (λ (r : Spot). r ≡ event_fault recording at)
event_settled recording at x y p q = p ∙ sym q

pub find_settled : (recording : List ℕ) → Settled (λ (r : Fault). r ≡ fault_in recording)
find_settled recording x y p q = p ∙ sym q
