-- What a read gives out of the bytes of a receiving part. Assumes nothing.
use Rattle.std.specs.Prelude.{ℕ, ◌≡◌, List, ◌++◌, ◌+◌, ◌*◌, ◌≤◌, ◌<◌, min, eqb, length, get_or, take, drop}
use Rattle.machine.specs.Channel.{read_code}

-- a receiving part: the count and so many records of a size, and the lost mark
pub record Held (size lost_in : ℕ) (q : List ℕ) : Type 0 where
  pub whole : 1 + get_or q 0 0 * size ≤ length q
  pub marked : lost_in < length q

-- the count and the code of a read of n records, and what it leaves in the buffer b
pub record Given (size lost_in n : ℕ) (q b : List ℕ) (count code : ℕ) (after : List ℕ) : Type 0 where
  pub count_is : count ≡ min n (get_or q 0 0)
  pub code_is : code ≡ read_code (eqb 1 (get_or q lost_in 0)) n count
  pub buffer_is : after ≡ take (count * size) (drop 1 q) ++ drop (count * size) b
