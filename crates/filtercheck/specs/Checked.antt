-- What a start's checks say of the records that it is given. Assumes nothing.
use Rattle.std.specs.Prelude.{ℕ, ◌≤◌, ◌≡◌, List, length}
use Rattle.machine.specs.Limits.{record_size, most_data}
use Rattle.machine.specs.Message.{size_of}

-- a type and two lent records that passed the checks of a start, as far as what is stored goes
pub record Checked (kind : ℕ) (mask pattern : List ℕ) : Type 0 where
  pub low : 1 ≤ kind
  pub high : kind ≤ 2
  pub mask_long : record_size ≤ length mask
  pub pattern_long : record_size ≤ length pattern
  pub same : size_of mask ≡ size_of pattern
  pub small : size_of mask ≤ most_data
