-- The part of a region that holds the filters of a channel, alone and with the two maps that follow from them. Assumes nothing.
use Rattle.std.specs.Prelude.{ℕ, ◌≡◌, List, T, length, take}
use Rattle.layout.specs.Sizes.{filters_size, mapped_size}
use Rattle.layout.specs.Memory.{filters, mapped}

-- the part of a region that holds the filters of a connection of some flags
pub record FilterPart (m : List ℕ) : Type 0 where
  pub flags : ℕ
  pub long : length m ≡ filters_size
  pub valid : T ((filters flags).valid m)

-- the same with the maps behind them
pub record MappedPart (m : List ℕ) : Type 0 where
  pub flags : ℕ
  pub long : length m ≡ mapped_size
  pub valid : T ((mapped flags).valid m)

-- filters, and behind them room for the maps
pub record Unmapped (m : List ℕ) : Type 0 where
  pub long : length m ≡ mapped_size
  pub part : FilterPart (take filters_size m)
