-- The written records of a channel as code meets them: the part of a region that holds them. Assumes nothing.
use Rattle.std.specs.Prelude.{ℕ, ◌≡◌, List, T, length}
use Rattle.codec.specs.Code.{Code, up_to}
use Rattle.machine.specs.Message.{Rec}
use Rattle.machine.specs.Limits.{most_written}
use Rattle.layout.specs.Sizes.{written_size}
use Rattle.layout.specs.Record.{out_cell}

-- at most 16 records, on a connection of these flags
abbrev pub written : ℕ → Code (List Rec)
written flags = up_to most_written (out_cell flags)

-- the part of a region that holds them
pub record WrittenPart (flags : ℕ) (m : List ℕ) : Type 0 where
  pub long : length m ≡ written_size
  pub valid : T ((written flags).valid m)
