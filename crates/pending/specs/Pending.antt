-- Which periodics are pending: the first of them, and one that is no longer. Assumes nothing.
use Rattle.std.specs.Prelude.{ℕ, suc, Bool, false, [], ◌∷◌, if◌then◌else◌}
use Rattle.std.proofs.Math.Option.{Option, none, some}
use Rattle.machine.specs.Filter.{Slots}
use Rattle.machine.specs.Channel.{Periodic, calm}

-- a place with a pending periodic
unfoldable pub is_pending : Option Periodic → Bool
is_pending none = false
is_pending (some p) = p.pending

-- the index of the first place with a pending periodic; the number of places where there is none
unfoldable pub first_pending : Slots Periodic → ℕ
first_pending [] = 0
first_pending (x ∷ xs) = if is_pending x then 0 else suc (first_pending xs)

-- a place whose periodic, if it has one, is no longer pending
unfoldable pub calm_slot : Option Periodic → Option Periodic
calm_slot none = none
calm_slot (some p) = some (calm p)
