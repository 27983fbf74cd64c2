-- One entry of a store. Assumes nothing.
use Rattle.std.specs.Prelude.{ℕ, List, get_or}
use Rattle.std.proofs.Math.Option.{none}
use Rattle.machine.specs.Filter.{Slots}
use Rattle.store_sizes.specs.Entries.{entry_of}

-- what stands in a store for the place of index i of these
unfoldable pub entry_at : {A : Type 0} → (A → List ℕ) → Slots A → ℕ → List ℕ
entry_at w s i = entry_of w i (get_or s i none)
