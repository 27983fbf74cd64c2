-- `taking::launch` meets its contract. Assumes nothing.
use mathlib.Core.Path.{ap, ◌∙◌}
use mathlib.Core.List.{List, ◌∷◌}
use Prim.Native.Nat.{ℕ}
use Rattle.codec.proofs.Lists.{marked}
use Rattle.machine.specs.Limits.{record_size}
use Rattle.taking.proofs.launch.Goals as goal

pub returns : goal.returns
returns c = marked record_size 1 c.args.flight.now _ c.requires.0 ∙ ap {B = List ℕ} (λ (s : List ℕ). 1 ∷ s) c.copy_record.ensures
