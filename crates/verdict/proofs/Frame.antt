-- A frame's bytes are the first bytes of its row, as many as they are. Assumes nothing.
use mathlib.Core.Path.{◌≡◌, refl, ◌∙◌}
use Prim.Native.Nat.{ℕ, ◌+◌, ◌-◌, ◌≤◌}
use native.Mathlib.Omega.{arith}
use mathlib.Core.List.{List, ◌++◌}
use lib.ListN.{length, take, length-append}
use lib.Seq.{take_at}
use Rattle.codec.specs.Plain.{zeros}
use Rattle.machine.specs.Limits.{most_data}
use Rattle.machine.specs.Message.{twelve}

module _ (bytes : List ℕ) where
  pub of_its_row : take (length bytes) (twelve bytes) ≡ bytes
  unfolding twelve
  of_its_row = take_at bytes (zeros (most_data - length bytes)) (length bytes) refl

  pub within_its_row : length bytes ≤ length (twelve bytes)
  unfolding twelve
  within_its_row = let e : length (bytes ++ zeros (most_data - length bytes)) ≡ length bytes + length (zeros (most_data - length bytes)) = length-append bytes (zeros (most_data - length bytes)) in omega arith
