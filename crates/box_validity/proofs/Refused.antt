-- What bytes that are no memory answer to every call. Assumes nothing.
use mathlib.Core.Path.{◌≡◌, ap, ◌∙◌}
use Prim.Native.Nat.{ℕ}
use mathlib.Core.List.{List}
use Rattle.std.specs.Prelude.{Err}
use Rattle.codes.specs.Code.{number_of}
use Rattle.codes.specs.declared.Refusal.{Refusal}
use Rattle.machine.specs.Step.{Event, lent_by}
use Rattle.layout.specs.Promise.{gives}
use Rattle.memory.specs.Promise.{outcome}
use Rattle.memory.proofs.Rows.{not_valid}
use Rattle.box_validity.specs.Checked.{Checked}

pub no_device : (rates m : List ℕ) (x : Event) (e : Refusal) → Checked m (Err e) → gives (number_of e) 0 (lent_by x) m ≡ outcome rates m x
no_device rates m x e h = ap (λ (k : Refusal). gives (number_of k) 0 (lent_by x) m) h.1 ∙ not_valid rates m x h.0
