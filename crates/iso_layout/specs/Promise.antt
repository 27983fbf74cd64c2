-- What the functions on the region of one ISO 15765 channel promise: code, value, lent buffer and region as the channel of `iso` leaves and answers.
-- Assumes nothing.
use Rattle.std.specs.Prelude.{ℕ, ◌≡◌, List, T, length, get_or}
use Rattle.machine.specs.Channel.{Call}
use Rattle.layout.specs.Promise.{Result, answered}
use Rattle.iso.specs.Iso.{IsoOutcome, on_iso_call}
use Rattle.iso_layout.specs.Sizes.{iso_region_size}
use Rattle.iso_layout.specs.Region.{iso_region}

-- a region of the right size, valid, of an open channel
pub record IsoOpened (r : List ℕ) : Type 0 where
  pub long : length r ≡ iso_region_size
  pub valid : T (iso_region.valid r)
  pub mark : get_or r 0 0 ≡ 1

-- what a channel leaves and answers, with the bytes of its region
unfoldable pub iso_gives : IsoOutcome → Result
iso_gives x = answered x.1 (iso_region.put x.0)

-- a call on the channel, at the clock `now`, before its code is noted
unfoldable pub iso_outcome : List ℕ → ℕ → List ℕ → Call → Result
iso_outcome rates now r x = iso_gives (on_iso_call rates now (iso_region.get r) x)
