-- WHOLE SHIFTS IN BYTES: numbered calls in a row on one lent memory, what each gives and what they leave. Assumes nothing.
use Rattle.std.specs.Prelude.{ℕ, ◌≡◌, List}
use Rattle.std.proofs.Math.Option.{Option}
use Rattle.machine.specs.Channel.{Answer}
use Rattle.memory.specs.Runs.{results, leaves}
use Rattle.shifts.specs.Shifts.{Numbered, events, to_number}

-- what the call with number n gives where they are made in this order: code, value, lent buffer
unfoldable pub result_to : List ℕ → List ℕ → List Numbered → ℕ → Option Answer
result_to rates m cs n = to_number n cs (results rates m (events cs))

-- WHOLE SHIFT. Both orders leave the same memory, every byte of it, and each call gives the same: its code, its value and every byte of its lent buffer
pub record SameBytes (rates m : List ℕ) (zs ws : List Numbered) : Type 0 where
  pub memory : leaves rates m (events zs) ≡ leaves rates m (events ws)
  pub result : (n : ℕ) → result_to rates m zs n ≡ result_to rates m ws n
