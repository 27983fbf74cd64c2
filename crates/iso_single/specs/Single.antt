-- The bytes of a flight that is the frame of a single-frame message. Assumes nothing.
use Rattle.std.specs.Prelude.{ℕ, ◌≡◌, List, T}
use Rattle.std.proofs.Math.Option.{some}
use Rattle.codec.specs.Code.{slot}
use Rattle.iso.specs.Iso.{Flight}
use Rattle.iso_layout.specs.Region.{owner_parts, flight_code}

pub record SingleIn (f : List ℕ) : Type 0 where
  pub flags : ℕ
  pub flight : Flight
  pub ok : T ((flight_code flags).ok flight)
  pub owner : owner_parts flight.owner ≡ 1
  pub bytes : (slot (flight_code flags)).put (some flight) ≡ f
